-- How many messages of each sort went on a channel.
use Rattle.std.specs.Prelude.{ℕ, ◌-◌, ◌^◌, Bool, true, false, List, length, count_by, min}
use Rattle.sb_message.specs.declared.message.Body.{Body}
use Rattle.sb_message.specs.declared.message.Body.TheVariants.{Sync}
use Rattle.sb_message.specs.declared.message.Msg.{Msg}
use Rattle.device_api.specs.declared.counts.Count.{Count}
use Rattle.device_api.specs.Transcript.{bodies}

abbrev pub is_sync : Body → Bool
is_sync Sync = true
is_sync other = false

-- a number as it is counted: above 2^64 - 1 it stands as 2^64 - 1
abbrev pub counted : ℕ → ℕ
counted n = min n (2 ^ 64 - 1)

-- the null messages and the events among messages
abbrev pub count_of : List Msg → Count
count_of messages = record { syncs = counted (count_by (λ (m : Msg). is_sync m.body) messages); sends = counted (length (bodies messages)) }
