-- What is counted stands for the messages of the run after each moment.
use Rattle.std.specs.Prelude.{ℕ, suc, ◌≡◌, ◌≢◌, ◌==◌, ◌+◌, ◌≤◌, ◌<◌, Bool, true, false, ◌&&◌, List, [], ◌∷◌, ◌++◌, length, map, slice_get, slice_set, Option, Some, None, IsSome, All, option_map, refl}
use Rattle.std.proofs.Common.{sym, ap, ap₂, ◌∙◌, arith, subst, cond, inr, ⊎_elim, append_assoc, append-nil}
use Rattle.std.proofs.lemmas.Bool.{cases_eq, false≢true}
use Rattle.std.proofs.lemmas.Bool.Decides.{nat_tests}
use Rattle.std.proofs.lemmas.List.Elements.{All-head, All-tail, filter-append}
use Rattle.std.proofs.lemmas.Option.{slice_get_within, slice_get-map}
use Rattle.cs_base.specs.declared.link.Link.{Link}
use Rattle.cs_base.specs.declared.port_kind.PortKind.{PortKind}
use Rattle.cs_base.specs.Plan.{kind_at, uses_of, Joins}
use Rattle.sb_message.specs.Receivable.{MaySend}
use Rattle.sb_message.specs.declared.message.Body.{Body}
use Rattle.sb_message.specs.declared.message.Msg.{Msg}
use Rattle.device_api.specs.declared.component.Component.{Component}
use Rattle.device_api.specs.Behaviour.{Behaviour}
use Rattle.device_api.specs.Channels.{Channel, channels}
use Rattle.device_api.specs.Counts.{count_of}
use Rattle.device_api.specs.Transcript.{transcript}
use Rattle.device_api.specs.GlobalCounts.{messages_by, messages_of, counts_of}
use Rattle.device_api.specs.World.{Run, Sent, start_run, slot, after, sent_at, sends_by, sent_in, sends_on, global_until}
use Rattle.moment_tree.specs.declared.agenda.Moment.{Moment}
use Rattle.moment_tree.specs.Places.{clock}
use Rattle.global_model.specs.declared.routes.Route.{Route}
use Rattle.global_model.specs.Agenda.{has, IsNext}
use Rattle.global_model.specs.Inboxes.{port_of, end_at}
use Rattle.global_model.specs.Step.{network, moment_in, HasStepped}
use Rattle.global_model.specs.Tally.{TallyState, first_tally, after_send, count_before, leads_on, counted_if, counted_on}
use Rattle.global_model.specs.Tallied.{IsTally, AreTallied}
use Rattle.global_model.specs.UnderWay.{System, Stands, world_at}
use Rattle.global_model.proofs.AfterStep.{clock_mono, order, kinds_at, the_run, next_world, are_routes}
use Rattle.global_model.proofs.ComesTo.{order_until, bound_until}
use Rattle.global_model.proofs.Nested.{get_set_same, get_set_other, equal_from_test}
use Rattle.global_model.proofs.NextMoment.{kind_within, jumped}
use Rattle.global_model.proofs.Numbers.{leads_is, channel_interval, channel_kind}
use Rattle.global_model.proofs.Quiet.{clock_at, clock_past, clock_high, moment_begins}
use Rattle.global_model.proofs.Sending.{AreRoutes}
use Rattle.global_model.proofs.Tallying.{tally_more, tally_starts, tally_later, tally_ends}

turned : (x y : ℕ) → (x == y) ≡ (y == x)
turned x y = grind (arith, nat_tests)

same_number : (x y : ℕ) → x ≡ y → (x == y) ≡ true
same_number x y is = grind (arith, nat_tests)

other_number : (x y : ℕ) → x ≢ y → (x == y) ≡ false
other_number x y ne = at (x == y) refl
  where
    at : (b : Bool) → (x == y) ≡ b → b ≡ false
    at true is = absurd (ne (equal_from_test x y is))
    at false is = refl

-- where there is no such channel nothing is counted
counted_none : (k : ℕ) (routes : List (List (Option Route))) (c t : ℕ) (sends : List (ℕ × Body)) → counted_on k routes c t sends None ≡ None
unfolding counted_on
counted_none k routes c t [] = refl
counted_none k routes c t (sent ∷ more) = at (leads_on k (port_of routes (end_at c sent.0))) (counted_none k routes c t more)
  where
    at : (b : Bool) → counted_on k routes c t more None ≡ None → counted_on k routes c t more (counted_if b t None) ≡ None
    at true rest = rest
    at false rest = rest

-- a channel of a plan, and what component c sends at t
module _ (routes : List (List (Option Route))) (links : List Link) (c t : ℕ) (ports : List PortKind) (routed : AreRoutes routes links c (length ports)) (once : (p : ℕ) → p < length ports → uses_of links (end_at c p) ≤ 1) (k : ℕ) (ch : Channel) (is : slice_get (channels links) k ≡ Some ch) where
  -- whether it is on the channel
  on_channel : (p : ℕ) → p < length ports → leads_on k (port_of routes (end_at c p)) ≡ ((ch.from.component == c) && (ch.from.port == p))
  on_channel p lt = ap (leads_on k) (routed p lt) ∙ leads_is links (end_at c p) k ch (once p lt) is

  -- a component that isn't the channel's sender
  pub counts_other : ch.from.component ≢ c → (sends : List (ℕ × Body)) → All (λ (sent : ℕ × Body). MaySend ports sent.0 sent.1) sends → (tally : Option TallyState) → counted_on k routes c t sends tally ≡ tally
  unfolding counted_on
  counts_other ne [] may tally = refl
  counts_other ne (sent ∷ more) may tally =
      let first : MaySend ports sent.0 sent.1 = All-head (λ (x : ℕ × Body). MaySend ports x.0 x.1) sent more may in
      let lt : sent.0 < length ports = slice_get_within ports sent.0 first.kind first.at_port in
      ap (λ b. counted_on k routes c t more (counted_if b t tally)) (on_channel sent.0 lt ∙ ap (λ b. b && (ch.from.port == sent.0)) (other_number ch.from.component c ne))
      ∙ counts_other ne more (All-tail (λ (x : ℕ × Body). MaySend ports x.0 x.1) sent more may) tally

  -- the channel's sender
  pub counts_own : ch.from.component ≡ c → 1 ≤ ch.interval → (kind : PortKind) (sends : List (ℕ × Body)) → All (λ (sent : ℕ × Body). MaySend ports sent.0 sent.1) sends → (before : List Sent) (u : ℕ) (tally : TallyState) → u ≤ t + 1 → IsTally kind ch before u tally → (tally' : TallyState) × (counted_on k routes c t sends (Some tally) ≡ Some tally') × IsTally kind ch (before ++ sends_by ch.from.port (sent_at t sends)) (t + 1) tally'
  unfolding counted_on
  counts_own same some kind [] may before u tally le counted = (tally, refl, subst (λ xs. IsTally kind ch xs (t + 1) tally) (sym (append-nil before)) (tally_later u (t + 1) le counted))
  counts_own same some kind (sent ∷ more) may before u tally le counted = at (ch.from.port == sent.0) refl (counts_own same some kind more (All-tail (λ (x : ℕ × Body). MaySend ports x.0 x.1) sent more may))
    where
      first : MaySend ports sent.0 sent.1
      first = All-head (λ (x : ℕ × Body). MaySend ports x.0 x.1) sent more may

      lt : sent.0 < length ports
      lt = slice_get_within ports sent.0 first.kind first.at_port

      leads : (here : Bool) → (ch.from.port == sent.0) ≡ here → leads_on k (port_of routes (end_at c sent.0)) ≡ here
      leads here by = on_channel sent.0 lt ∙ ap (λ b. b && (ch.from.port == sent.0)) (same_number ch.from.component c same) ∙ by

      s : Sent
      s = record { time = t; port = sent.0; body = sent.1 }

      later : List Sent
      later = sends_by ch.from.port (sent_at t more)

      kept : (here : Bool) → (ch.from.port == sent.0) ≡ here → sends_by ch.from.port (sent_at t (sent ∷ more)) ≡ cond here (s ∷ later) later
      kept here by = ap (λ b. cond b (s ∷ later) later) (turned sent.0 ch.from.port ∙ by)

      at : (here : Bool) → (ch.from.port == sent.0) ≡ here → ((before : List Sent) (u : ℕ) (tally : TallyState) → u ≤ t + 1 → IsTally kind ch before u tally → (tally' : TallyState) × (counted_on k routes c t more (Some tally) ≡ Some tally') × IsTally kind ch (before ++ later) (t + 1) tally') → (tally' : TallyState) × (counted_on k routes c t more (counted_if (leads_on k (port_of routes (end_at c sent.0))) t (Some tally)) ≡ Some tally') × IsTally kind ch (before ++ sends_by ch.from.port (sent_at t (sent ∷ more))) (t + 1) tally'
      at true by rest =
          let all = rest (before ++ s ∷ []) (t + 1) (after_send t tally) (omega arith) (tally_more kind ch before s t refl u tally le first.event some counted) in
          (all.0, ap (λ b. counted_on k routes c t more (counted_if b t (Some tally))) (leads true by) ∙ all.1, subst (λ xs. IsTally kind ch xs (t + 1) all.0) (append_assoc before (s ∷ []) later ∙ ap (λ xs. before ++ xs) (sym (kept true by))) all.2)
      at false by rest =
          let all = rest before u tally le counted in
          (all.0, ap (λ b. counted_on k routes c t more (counted_if b t (Some tally))) (leads false by) ∙ all.1, subst (λ xs. IsTally kind ch xs (t + 1) all.0) (ap (λ xs. before ++ xs) (sym (kept false by))) all.2)

-- nothing was sent at the start
none_sent : {S : Type 0} (port : ℕ) (start : Option S) → sends_by port (sent_in (option_map start_run start)) ≡ []
none_sent port None = refl
none_sent port (Some s) = refl

each_starts : {S : Type 0} (b : Behaviour S) (system : System S) (tallies : List TallyState) → All (Joins system.kinds) system.links → tallies ≡ map (λ (ch : Channel). first_tally ch.interval) (channels system.links) → (k : ℕ) (ch : Channel) (kind : PortKind) → slice_get (channels system.links) k ≡ Some ch → (tally : TallyState) × (slice_get tallies k ≡ Some tally) × IsTally kind ch (sends_on ch (world_at (network b system.starts system.links) 0 0)) (clock 0 0 ch.from.component) tally
unfolding slot global_until
each_starts {S} b system tallies joins are k ch kind is = (
  first_tally ch.interval,
  ap (λ xs. slice_get xs k) are ∙ slice_get-map (λ (x : Channel). first_tally x.interval) (channels system.links) k ∙ ap (option_map (λ (x : Channel). first_tally x.interval)) is,
  subst (λ u. IsTally kind ch (sends_on ch (world_at (network b system.starts system.links) 0 0)) u (first_tally ch.interval)) (sym (clock_at 0 0 ch.from.component (omega arith))) (subst (λ xs. IsTally kind ch xs 0 (first_tally ch.interval)) (sym (ap (λ found. sends_by ch.from.port (sent_in found)) (slice_get-map start_run system.starts ch.from.component) ∙ none_sent ch.from.port (slice_get system.starts ch.from.component))) (tally_starts kind ch (channel_interval system.kinds system.links joins k ch is))),
)

pub tallied_starts : {S : Type 0} (b : Behaviour S) (system : System S) (tallies : List TallyState) → All (Joins system.kinds) system.links → tallies ≡ map (λ (ch : Channel). first_tally ch.interval) (channels system.links) → AreTallied b system 0 0 tallies
tallied_starts {S} b system tallies joins are = record {
  each = λ k ch kind is kind_is. each_starts b system tallies joins are k ch kind is;
  no_more = λ k none. ap (λ xs. slice_get xs k) are ∙ slice_get-map (λ (x : Channel). first_tally x.interval) (channels system.links) k ∙ ap (option_map (λ (x : Channel). first_tally x.interval)) none;
}

module _ {S : Type 0} {b : Behaviour S} {settled : S → ℕ → Type 0} {system : System S} {routes : List (List (Option Route))} {t c : ℕ} {components : List (Component S)} {inboxes : List (List (List Msg))} {agenda : List (Option ℕ)} (under_way : Stands b settled system routes t c components inboxes agenda) (tallies : List TallyState) (tallied : AreTallied b system t c tallies) where
  -- while nothing happens
  each_until : (until : ℕ) → t ≤ until → (t ≡ until → c ≡ 0) → ((u d : ℕ) → has u d agenda ≡ true → until ≤ u) → (k : ℕ) (ch : Channel) (kind : PortKind) → slice_get (channels system.links) k ≡ Some ch → kind_at system.kinds ch.from ≡ Some kind → (tally : TallyState) × (slice_get tallies k ≡ Some tally) × IsTally kind ch (sends_on ch (world_at (network b system.starts system.links) until 0)) (clock until 0 ch.from.component) tally
  each_until until le at_time none_before k ch kind is kind_is =
      let was = tallied.each k ch kind is kind_is in
      let earlier : clock t c ch.from.component ≤ clock until 0 ch.from.component = clock_mono t c until 0 ch.from.component (order_until t c until le at_time) in
      let same : world_at (network b system.starts system.links) until 0 ≡ world_at (network b system.starts system.links) t c = jumped under_way until 0 (bound_until until agenda none_before) (omega arith) (order_until t c until le at_time) in
      (was.0, was.1, subst (λ w. IsTally kind ch (sends_on ch w) (clock until 0 ch.from.component) was.0) (sym same) (tally_later (clock t c ch.from.component) (clock until 0 ch.from.component) earlier was.2))

  pub tallied_until : (until : ℕ) → t ≤ until → (t ≡ until → c ≡ 0) → ((u d : ℕ) → has u d agenda ≡ true → until ≤ u) → AreTallied b system until 0 tallies
  tallied_until until le at_time none_before = record { each = each_until until le at_time none_before; no_more = tallied.no_more }

  -- after a component's moment
  module _ {m : Moment} (next : IsNext m agenda) (component : Component S) (there : slice_get components m.component ≡ Some component) {components' : List (Component S)} {inboxes' : List (List (List Msg))} {noted agenda' : List (Option ℕ)} {soon : ℕ} (stepped : HasStepped b settled m.at m.component routes component components inboxes agenda components' inboxes' noted soon) (set : agenda' ≡ slice_set noted m.component (Some soon)) where
    abbrev sends : List (ℕ × Body)
    sends = (moment_in b m.at m.component inboxes component.device).sends

    abbrev run : Run S
    run = (the_run under_way next component there stepped set).0

    run_is : slice_get (world_at (network b system.starts system.links) t c).runs m.component ≡ Some run
    run_is = (the_run under_way next component there stepped set).1

    abbrev new_run : Run S
    new_run = after m.at run (moment_in b m.at m.component inboxes component.device)

    -- of the channels out of another component
    sends_other : (ch : Channel) → ch.from.component ≢ m.component → sends_on ch (world_at (network b system.starts system.links) m.at (m.component + 1)) ≡ sends_on ch (world_at (network b system.starts system.links) t c)
    sends_other ch ne = ap (sends_on ch) (next_world under_way next component there stepped set) ∙ ap (λ found. sends_by ch.from.port (sent_in found)) (get_set_other (world_at (network b system.starts system.links) t c).runs m.component ch.from.component new_run (λ e. ne (sym e)))

    -- of its own channels
    sends_own : (ch : Channel) → ch.from.component ≡ m.component → sends_on ch (world_at (network b system.starts system.links) m.at (m.component + 1)) ≡ sends_on ch (world_at (network b system.starts system.links) t c) ++ sends_by ch.from.port (sent_at m.at sends)
    sends_own ch same =
        ap (sends_on ch) (next_world under_way next component there stepped set)
        ∙ ap (λ d. sends_by ch.from.port (sent_in (slice_get (slice_set (world_at (network b system.starts system.links) t c).runs m.component new_run) d))) same
        ∙ ap (λ found. sends_by ch.from.port (sent_in found)) (get_set_same (world_at (network b system.starts system.links) t c).runs m.component new_run (slice_get_within (world_at (network b system.starts system.links) t c).runs m.component run run_is))
        ∙ filter-append (λ (s : Sent). s.port == ch.from.port) run.sent (sent_at m.at sends)
        ∙ ap (λ found. sends_by ch.from.port (sent_in found) ++ sends_by ch.from.port (sent_at m.at sends)) (sym run_is)
        ∙ ap (λ d. sends_by ch.from.port (sent_in (slice_get (world_at (network b system.starts system.links) t c).runs d)) ++ sends_by ch.from.port (sent_at m.at sends)) (sym same)

    once : (p : ℕ) → p < length (b.ports component.device) → uses_of system.links (end_at m.component p) ≤ 1
    once p lt = let one : uses_of system.links (end_at m.component p) ≡ 1 = under_way.plan.in_one_link (end_at m.component p) (kind_within system.kinds (end_at m.component p) (b.ports component.device) (kinds_at under_way next component there stepped set) lt) in omega arith

    each_next : (tallies' : List TallyState) → ((k : ℕ) → slice_get tallies' k ≡ counted_on k routes m.component m.at sends (slice_get tallies k)) → (k : ℕ) (ch : Channel) (kind : PortKind) → slice_get (channels system.links) k ≡ Some ch → kind_at system.kinds ch.from ≡ Some kind → (tally : TallyState) × (slice_get tallies' k ≡ Some tally) × IsTally kind ch (sends_on ch (world_at (network b system.starts system.links) m.at (m.component + 1))) (clock m.at (m.component + 1) ch.from.component) tally
    each_next tallies' counted k ch kind is kind_is = ⊎_elim own other (cases_eq ch.from.component m.component)
      where
        was : (tally : TallyState) × (slice_get tallies k ≡ Some tally) × IsTally kind ch (sends_on ch (world_at (network b system.starts system.links) t c)) (clock t c ch.from.component) tally
        was = tallied.each k ch kind is kind_is

        earlier : clock t c ch.from.component ≤ clock m.at m.component ch.from.component
        earlier = clock_mono t c m.at m.component ch.from.component (order under_way next component there stepped set)

        high : clock m.at m.component ch.from.component ≤ m.at + 1
        high = clock_high m.at m.component ch.from.component

        own : ch.from.component ≡ m.component → (tally : TallyState) × (slice_get tallies' k ≡ Some tally) × IsTally kind ch (sends_on ch (world_at (network b system.starts system.links) m.at (m.component + 1))) (clock m.at (m.component + 1) ch.from.component) tally
        own same =
            let all = counts_own routes system.links m.component m.at (b.ports component.device) (are_routes under_way next component there stepped set) once k ch is same (channel_interval system.kinds system.links under_way.plan.links_join k ch is) kind sends stepped.whole.sendable (sends_on ch (world_at (network b system.starts system.links) t c)) (clock t c ch.from.component) was.0 (omega (arith, earlier, high)) was.2 in
            let now : clock m.at (m.component + 1) ch.from.component ≡ m.at + 1 = clock_past m.at (m.component + 1) ch.from.component (omega arith) in
            (all.0, counted k ∙ ap (counted_on k routes m.component m.at sends) was.1 ∙ all.1, subst (λ u. IsTally kind ch (sends_on ch (world_at (network b system.starts system.links) m.at (m.component + 1))) u all.0) (sym now) (subst (λ xs. IsTally kind ch xs (m.at + 1) all.0) (sym (sends_own ch same)) all.2))

        other : ch.from.component ≢ m.component → (tally : TallyState) × (slice_get tallies' k ≡ Some tally) × IsTally kind ch (sends_on ch (world_at (network b system.starts system.links) m.at (m.component + 1))) (clock m.at (m.component + 1) ch.from.component) tally
        other ne =
            let later : clock m.at m.component ch.from.component ≤ clock m.at (m.component + 1) ch.from.component = clock_mono m.at m.component m.at (m.component + 1) ch.from.component (inr (refl, omega arith)) in
            (was.0, counted k ∙ counts_other routes system.links m.component m.at (b.ports component.device) (are_routes under_way next component there stepped set) once k ch is ne sends stepped.whole.sendable (slice_get tallies k) ∙ was.1, subst (λ xs. IsTally kind ch xs (clock m.at (m.component + 1) ch.from.component) was.0) (sym (sends_other ch ne)) (tally_later (clock t c ch.from.component) (clock m.at (m.component + 1) ch.from.component) (omega (arith, earlier, later)) was.2))

    pub tallied_next : (tallies' : List TallyState) → ((k : ℕ) → slice_get tallies' k ≡ counted_on k routes m.component m.at sends (slice_get tallies k)) → AreTallied b system m.at (m.component + 1) tallies'
    tallied_next tallies' counted = record { each = each_next tallies' counted; no_more = λ k none. counted k ∙ ap (counted_on k routes m.component m.at sends) (tallied.no_more k none) ∙ counted_none k routes m.component m.at sends }

same_by_place : {X : Type 0} (xs ys : List X) → ((k : ℕ) → slice_get xs k ≡ slice_get ys k) → xs ≡ ys
same_by_place [] [] same = refl
same_by_place [] (y ∷ ys) same = absurd (let none : None ≡ Some y = same 0 in cc)
same_by_place (x ∷ xs) [] same = absurd (let none : Some x ≡ None = same 0 in cc)
same_by_place (x ∷ xs) (y ∷ ys) same = let both : Some x ≡ Some y = same 0 in let first : x ≡ y = cc in ap₂ (λ z zs. z ∷ zs) first (same_by_place xs ys (λ k. same (suc k)))

-- at the end the counts are those of the transcripts
pub tallied_ends : {S : Type 0} {b : Behaviour S} {settled : S → ℕ → Type 0} {system : System S} {routes : List (List (Option Route))} {t : ℕ} {components : List (Component S)} {inboxes : List (List (List Msg))} {agenda : List (Option ℕ)} (tallies : List TallyState) → Stands b settled system routes t 0 components inboxes agenda → AreTallied b system t 0 tallies → map (count_before t) tallies ≡ counts_of (network b system.starts system.links) t
tallied_ends {S} {b} {settled} {system} {routes} {t} tallies under_way tallied = same_by_place (map (count_before t) tallies) (counts_of (network b system.starts system.links) t) (λ k. slice_get-map (count_before t) tallies k ∙ at k (slice_get (channels system.links) k) refl ∙ sym (slice_get-map (λ (ch : Channel). count_of (messages_of (network b system.starts system.links) t ch)) (channels system.links) k))
  where
    here : (k : ℕ) (ch : Channel) (kind : PortKind) → slice_get (channels system.links) k ≡ Some ch → kind_at system.kinds ch.from ≡ Some kind → option_map (count_before t) (slice_get tallies k) ≡ Some (count_of (messages_of (network b system.starts system.links) t ch))
    here k ch kind is kind_is =
        let each = tallied.each k ch kind is kind_is in
        let now : clock t 0 ch.from.component ≡ t = clock_at t 0 ch.from.component (omega arith) in
        ap (option_map (count_before t)) each.1
        ∙ ap Some (tally_ends t (omega (arith, now)) each.2)
        ∙ ap (λ w. Some (count_of (transcript kind ch (sends_on ch w) t))) (moment_begins (network b system.starts system.links) t)
        ∙ ap (λ found. Some (count_of (messages_by (network b system.starts system.links) t ch found))) (sym (ap (λ kinds. kind_at kinds ch.from) under_way.matches ∙ kind_is))

    there : (k : ℕ) (ch : Channel) → slice_get (channels system.links) k ≡ Some ch → (kind : Option PortKind) → kind_at system.kinds ch.from ≡ kind → IsSome kind → option_map (count_before t) (slice_get tallies k) ≡ Some (count_of (messages_of (network b system.starts system.links) t ch))
    there k ch is None kind_is some = absurd (false≢true some)
    there k ch is (Some kind) kind_is some = here k ch kind is kind_is

    at : (k : ℕ) (found : Option Channel) → slice_get (channels system.links) k ≡ found → option_map (count_before t) (slice_get tallies k) ≡ option_map (λ (ch : Channel). count_of (messages_of (network b system.starts system.links) t ch)) found
    at k None is = ap (option_map (count_before t)) (tallied.no_more k is)
    at k (Some ch) is = there k ch is (kind_at system.kinds ch.from) refl (channel_kind system.kinds system.links under_way.plan.links_join k ch is)
