-- What is counted of each channel, without its messages.
use Rattle.std.specs.Prelude.{ℕ, ◌≡◌, ◌≤◌, ◌==◌, ◌+◌, ◌-◌, ◌/◌, ◌^◌, nat_lt, if◌then◌else◌, List, [], ◌∷◌, Bool, false, Option, Some, None, option_map, map, slice_get}
use Rattle.cs_base.specs.declared.link.Link.{Link}
use Rattle.sb_message.specs.declared.message.Body.{Body}
use Rattle.device_api.specs.declared.counts.Count.{Count}
use Rattle.device_api.specs.Channels.{Channel, channels}
use Rattle.device_api.specs.Counts.{counted}
use Rattle.global_model.specs.declared.routes.Route.{Route}
use Rattle.global_model.specs.Inboxes.{port_of, end_at}

-- a channel's interval, when its next null message is due after the last send, and what went on it up to that send
pub record TallyState : Type 0 where
  pub interval : ℕ
  pub due : ℕ
  pub count : Count

-- an interval is some time, and short
pub record IsInterval (interval : ℕ) : Type 0 where
  pub some_time : 1 ≤ interval
  pub short : interval ≤ 10 ^ 12

-- before anything is sent a null message is due at 0
abbrev pub first_tally : ℕ → TallyState
first_tally interval = record { interval = interval; due = 0; count = record { syncs = 0; sends = 0 } }

-- how many null messages are due before a time: the first one at `due`, and then one each interval
unfoldable pub syncs_before : ℕ → ℕ → ℕ → ℕ
syncs_before interval due time = if nat_lt due time then (time - 1 - due) / interval + 1 else 0

-- a send at t: the null messages up to t stand before it, and it puts the timer off
abbrev pub after_send : ℕ → TallyState → TallyState
after_send t tally = record {
  interval = tally.interval;
  due = t + tally.interval;
  count = record { syncs = counted (tally.count.syncs + syncs_before tally.interval tally.due (t + 1)); sends = counted (tally.count.sends + 1) };
}

-- what went on the channel before a time
abbrev pub count_before : ℕ → TallyState → Count
count_before time tally = record { syncs = counted (tally.count.syncs + syncs_before tally.interval tally.due time); sends = tally.count.sends }

-- whether a route is along channel k
abbrev pub leads_on : ℕ → Option (Option Route) → Bool
leads_on k None = false
leads_on k (Some None) = false
leads_on k (Some (Some route)) = route.channel == k

-- a send at t, where it is on the channel
abbrev pub counted_if : Bool → ℕ → Option TallyState → Option TallyState
counted_if here t tally = if here then option_map (after_send t) tally else tally

-- the tally of channel k after what a component sends at t
unfoldable pub counted_on : ℕ → List (List (Option Route)) → ℕ → ℕ → List (ℕ × Body) → Option TallyState → Option TallyState
counted_on k routes from t [] tally = tally
counted_on k routes from t (sent ∷ more) tally = counted_on k routes from t more (counted_if (leads_on k (port_of routes (end_at from sent.0))) t tally)

-- what a component sends at t is counted
abbrev pub AreCounted : List (List (Option Route)) → ℕ → ℕ → List (ℕ × Body) → List TallyState → List TallyState → Type 0
AreCounted routes from t sends tallies tallies' = (k : ℕ) → slice_get tallies' k ≡ counted_on k routes from t sends (slice_get tallies k)

-- a send at t on a channel
abbrev pub HasSent : ℕ → ℕ → List TallyState → List TallyState → Type 0
HasSent channel t tallies tallies' = (k : ℕ) → slice_get tallies' k ≡ counted_if (channel == k) t (slice_get tallies k)

-- the tallies of links on which nothing went yet
abbrev pub first_tallies : List Link → List TallyState
first_tallies links = map (λ (ch : Channel). first_tally ch.interval) (channels links)
