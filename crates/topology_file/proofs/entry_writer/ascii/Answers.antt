use Rattle.std.proofs.Common.{Result, Ok, Err, MatchResult, refl}
use Rattle.std.specs.Result.{IsOk}
use Rattle.std.proofs.lemmas.Str.{IsUtf8-from_ascii}
use Rattle.topology_file.proofs.entry_writer.ascii.Goals as goal

-- it is no error where the error would deny what holds
is_ok-from_denied : {X Y : Type 0} {Fact : Type 0} (P : X → Type 0) (Q : Y → Type 0) (r : Result X Y) → MatchResult r P (λ e. (Fact → ⊥) × Q e) → Fact → IsOk r
is_ok-from_denied P Q (Ok x) told fact = refl
is_ok-from_denied P Q (Err e) told fact = absurd (told.0 fact)

pub unwrap-requires : goal.unwrap-requires
unwrap-requires c =
    is_ok-from_denied _ _ c.from_utf8.result c.from_utf8.ensures.cases (IsUtf8-from_ascii c.args.bytes.now c.requires)
