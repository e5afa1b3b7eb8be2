-- Which lists of messages may stand on a channel.
use Rattle.std.specs.Prelude.{◌≡◌, Bool, true, false, List, ◌∷◌, map}
use Rattle.std.specs.List.{AllByRecursion}
use Rattle.std.specs.List.Sorted.{IsNonDecreasing}
use Rattle.cs_base.specs.declared.port_kind.PortKind.{PortKind}
use Rattle.sb_message.specs.declared.message.Body.{Body}
use Rattle.sb_message.specs.declared.message.Body.TheVariants as body
use Rattle.sb_message.specs.declared.message.Msg.{Msg}
use Rattle.sb_message.specs.Receivable.{receivable}

abbrev pub is_intro : Body → Bool
is_intro body.Sync = false
is_intro (body.Intro intro) = true
is_intro (body.Dev message) = false
is_intro (body.Host message) = false
is_intro (body.Mem message) = false
is_intro (body.Eth frame) = false

-- a stream to a port of this kind: the first message is an introduction and no later one is, all can be received there, and no timestamp is below the one before
pub record IsStream (kind : PortKind) (messages : List Msg) : Type 0 where
  pub first : Msg
  pub later : List Msg
  pub parts : messages ≡ first ∷ later
  pub introduced : is_intro first.body ≡ true
  pub once : AllByRecursion (λ (message : Msg). is_intro message.body ≡ false) later
  pub receivable : AllByRecursion (λ (message : Msg). receivable kind message.body ≡ true) messages
  pub in_order : IsNonDecreasing (map (λ (message : Msg). message.at) messages)
