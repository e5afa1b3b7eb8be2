-- Each link has two channels, and each channel one count.
use Rattle.std.proofs.Common.{ℕ, ◌≡◌, ◌*◌, List, [], ◌∷◌, length, refl, ◌∙◌, arith}
use Rattle.std.proofs.lemmas.List.{length-map}
use Rattle.cs_base.specs.declared.link.Link.{Link}
use Rattle.device_api.specs.Channels.{Channel, channels}
use Rattle.device_api.specs.Counts.{count_of}
use Rattle.device_api.specs.GlobalCounts.{counts_of, messages_of}
use Rattle.device_api.specs.World.{Network}

length-channels : (links : List Link) → length (channels links) ≡ 2 * length links
length-channels [] = refl
length-channels (link ∷ more) = let rest = length-channels more in omega (arith, rest)

pub length-counts : {S : Type 0} (net : Network S) (end : ℕ) → length (counts_of net end) ≡ 2 * length net.links
length-counts net end = length-map (channels net.links) (λ (channel : Channel). count_of (messages_of net end channel)) ∙ length-channels net.links
