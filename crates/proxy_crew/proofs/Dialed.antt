-- Channels that are dialed one after another.
use Rattle.std.proofs.Common.{◌≡◌, ℕ, ◌+◌, ◌<◌, ◌≤◌, List, [], ◌∷◌, ◌++◌, length, get_or, map, take, reverse, Option, Some, None, option_map, Result, Err, refl, sym, ap, ap₂, ◌∙◌, subst, arith, append_assoc, append-nil, length-append}
use Rattle.std.specs.Prelude.{slice_get, All}
use Rattle.std.proofs.lemmas.List.{map_push, length-map, reverse-append, reverse-reverse, take_more, take_all, length-take-le}
use Rattle.std.proofs.lemmas.List.Elements.{All-push, All-nil}
use Rattle.std.proofs.lemmas.Option.{same_Some, slice_get-get_or, slice_get_within, slice_get-map, get_or_from_slice_get}
use Rattle.cs_base.specs.declared.dialer.DialBad.{DialBad}
use Rattle.cs_base.specs.declared.dialer.DialBad.TheVariants as dial
use Rattle.cs_base.specs.declared.port_kind.PortKind.TheVariants as kind
use Rattle.cs_base.specs.Outside.{Rose}
use Rattle.cs_base.specs.Wires.{DialerSeen, OutSeen, InSeen, dialed_after}
use Rattle.slot_queue.specs.declared.ends.RxEnd.{RxEnd}
use Rattle.slot_queue.specs.declared.ends.TxEnd.{TxEnd}
use Rattle.proxy_crew.specs.declared.build_bad.BuildBad.{BuildBad}
use Rattle.proxy_crew.specs.declared.build_bad.BuildBad.TheVariants.{Lost, NoMemory}
use Rattle.proxy_crew.specs.declared.proxied.Proxied.{Proxied}
use Rattle.proxy_crew.specs.declared.route.Route.{Route}
use Rattle.proxy_crew.specs.Dialing.{DialTells, FailTells, DialedAll, DialFailed, FailedOnce, AreNewEnds, IsDialed, AreDialed, channel_of, kind_of, route_of, near_end_of, far_end_of, bad_of}

-- WHAT THE DIALER TELLS

same_told : (o : Option (List ℕ)) → option_map (λ (l : List ℕ). l) o ≡ o
same_told None = refl
same_told (Some l) = refl

none_told : (o : Option (List ℕ)) → o ≡ option_map (λ (l : List ℕ). l ++ []) o
none_told None = refl
none_told (Some l) = ap Some (sym (append-nil l))

told_twice : (o : Option (List ℕ)) (a b : List ℕ) → option_map (λ (l : List ℕ). l ++ b) (option_map (λ (l : List ℕ). l ++ a) o) ≡ option_map (λ (l : List ℕ). l ++ (a ++ b)) o
told_twice None a b = refl
told_twice (Some l) a b = ap Some (append_assoc l a b)

told_more : (o0 o1 o2 : Option (List ℕ)) (a b c : List ℕ) → o1 ≡ option_map (λ (l : List ℕ). l ++ a) o0 → o2 ≡ option_map (λ (l : List ℕ). l ++ b) o1 → a ++ b ≡ c → o2 ≡ option_map (λ (l : List ℕ). l ++ c) o0
told_more o0 o1 o2 a b c first second is = second ∙ ap (λ o. option_map (λ (l : List ℕ). l ++ b) o) first ∙ told_twice o0 a b ∙ ap (λ q. option_map (λ (l : List ℕ). l ++ q) o0) is

pub one_bad : {U : Type 0} (channel : ℕ) (bad : DialBad) (r : Result U DialBad) (old new : DialerSeen) → r ≡ Err bad → new.dialed ≡ option_map (dialed_after r channel) old.dialed → old.faults ≤ new.faults → (r ≡ Err dial.Failed → Rose old.faults new.faults) → (b : BuildBad) → b ≡ bad_of channel bad → FailTells b channel old new
one_bad {U} channel dial.Failed r old new is told never rose b b_is = subst (λ q. FailTells q channel old new) (sym b_is) (record {
  named_is = refl;
  dialed = told ∙ ap (λ q. option_map (dialed_after q channel) old.dialed) is;
  failed = rose is;
})
one_bad {U} channel dial.NoMemory r old new is told never rose b b_is = subst (λ q. FailTells q channel old new) (sym b_is) (record {
  dialed = told ∙ ap (λ q. option_map (dialed_after q channel) old.dialed) is ∙ same_told old.dialed;
  never_falls = never;
})

module _ (channels : List ℕ) (old : DialerSeen) where
  pub dialed_first : DialedAll (take 0 channels) old old
  dialed_first = record { dialed = none_told old.dialed; no_fault = refl }

  module _ (count : ℕ) (mid new : DialerSeen) (channel : ℕ) (so_far : DialedAll (take count channels) old mid) (there : slice_get channels count ≡ Some channel) where
    within : count < length channels
    within = slice_get_within channels count channel there

    pub one_more : take count channels ++ channel ∷ [] ≡ take (count + 1) channels
    one_more = ap (λ c. take count channels ++ c ∷ []) (sym (get_or_from_slice_get channels count channel channel there)) ∙ sym (take_more channels count channel within)

    pub dialed_more : DialedAll (channel ∷ []) mid new → DialedAll (take (count + 1) channels) old new
    dialed_more one = record {
      dialed = told_more old.dialed mid.dialed new.dialed (take count channels) (channel ∷ []) (take (count + 1) channels) so_far.dialed one.dialed one_more;
      no_fault = one.no_fault ∙ so_far.no_fault;
    }

    lost_more : (named : ℕ) → FailedOnce channel named mid new → DialFailed channels named old new
    lost_more named one = record {
      place = count;
      there = there ∙ ap Some (sym one.named_is);
      dialed = told_more old.dialed mid.dialed new.dialed (take count channels) (channel ∷ []) (take (count + 1) channels) so_far.dialed one.dialed one_more;
      failed = subst (λ n. Rose n new.faults) so_far.no_fault one.failed;
    }

    bad_more : (U : Type 0) (b : BuildBad) → FailTells b channel mid new → DialTells {T = U} (Err b) channels old new
    bad_more U (Lost named) one = lost_more named one
    bad_more U NoMemory one = record {
      count = count;
      within = omega (arith, within);
      dialed = one.dialed ∙ so_far.dialed;
      never_falls = subst (λ n. n ≤ new.faults) so_far.no_fault one.never_falls;
    }

    -- as the call says it
    pub bad_told : {U : Type 0} (r : Result U BuildBad) (b one : BuildBad) → r ≡ Err b → b ≡ one → FailTells one channel mid new → DialTells r channels old new
    bad_told {U} r b one is same tells = subst (λ q. DialTells q channels old new) (sym (is ∙ ap Err same)) (bad_more U one tells)

    -- the channel is dialed, and there is no room for its ends
    pub no_room : {U : Type 0} (r : Result U BuildBad) (b : BuildBad) → r ≡ Err b → b ≡ NoMemory → DialedAll (channel ∷ []) mid new → DialTells r channels old new
    no_room {U} r b is same one = subst (λ q. DialTells q channels old new) (sym (is ∙ ap Err same)) (record {
      count = count + 1;
      within = omega (arith, within);
      dialed = (dialed_more one).dialed;
      never_falls = (let same : new.faults ≡ old.faults = (dialed_more one).no_fault in omega arith);
    })

-- WHAT IS MADE

front_there : {X : Type 0} (front : List X) (x : X) (rest : List X) → slice_get (front ++ x ∷ rest) (length front) ≡ Some x
front_there [] x rest = refl
front_there (y ∷ front) x rest = front_there front x rest

-- the ends that are left stand in turned order behind those that were taken
module _ {X Y : Type 0} (f : Y → X) (all : List X) (left : List X) (made : List Y) (so_far : map f made ++ reverse left ≡ all) where
  module _ (left' : List X) (x : X) (last : left ≡ left' ++ x ∷ []) where
    turned : reverse left ≡ x ∷ reverse left'
    turned = ap reverse last ∙ reverse-append left' (x ∷ [])

    split : map f made ++ x ∷ reverse left' ≡ all
    split = ap (λ l. map f made ++ l) (sym turned) ∙ so_far

    pub end_there : (count : ℕ) → length made ≡ count → slice_get all count ≡ Some x
    end_there count many = ap₂ slice_get (sym split) (sym many ∙ sym (length-map made f)) ∙ front_there (map f made) x (reverse left')

    pub end_is : (P : X → Type 0) → (count : ℕ) → length made ≡ count → All P all → P x
    end_is P count many every = subst P (get_or_from_slice_get all count x x (end_there count many)) (every count x (slice_get_within all count x (end_there count many)))

    pub end_taken : (y : Y) → f y ≡ x → map f (made ++ y ∷ []) ++ reverse left' ≡ all
    end_taken y is = ap (λ l. l ++ reverse left') (map_push f made y) ∙ append_assoc (map f made) (f y ∷ []) (reverse left') ∙ ap (λ z. map f made ++ z ∷ reverse left') is ∙ split

  pub none_left : left ≡ [] → length all ≡ length made
  none_left none = sym (ap length so_far) ∙ ap (λ l. length (map f made ++ reverse l)) none ∙ ap length (append-nil (map f made)) ∙ length-map made f

abbrev no_route : Route
no_route = record { channel = 0; kind = kind.Eth; sender = 0; receiver = 0 }

-- the channel at a place
abbrev pub route_at : List Route → ℕ → Route
route_at routes place = get_or routes place no_route

pub route_there : (routes : List Route) (place : ℕ) → place < length routes → slice_get routes place ≡ Some (route_at routes place)
route_there routes place within = slice_get-get_or routes place no_route within

-- so many of the channels are dialed
pub record IsUnderWay {O I : Type 0} (out : O → OutSeen) (wire : I → InSeen) (routes : List Route) (near : List RxEnd) (far : List TxEnd) (old now : DialerSeen) (count : ℕ) (nears : List RxEnd) (fars : List TxEnd) (made : List (Proxied O I)) : Type 0 where
  pub told : DialedAll (take count (map channel_of routes)) old now
  pub new : All (AreNewEnds out wire) made
  pub routes_are : map route_of made ≡ take count routes
  pub near_are : map near_end_of made ++ reverse nears ≡ near
  pub far_are : map far_end_of made ++ reverse fars ≡ far

module _ {O I : Type 0} (out : O → OutSeen) (wire : I → InSeen) (routes : List Route) (near : List RxEnd) (far : List TxEnd) (old : DialerSeen) where
  pub begins : (nears : List RxEnd) (fars : List TxEnd) (made : List (Proxied O I)) → nears ≡ reverse near → fars ≡ reverse far → made ≡ [] → IsUnderWay out wire routes near far old old 0 nears fars made
  begins nears fars made near_is far_is none = subst (IsUnderWay out wire routes near far old old 0 nears fars) (sym none) (record {
    told = dialed_first (map channel_of routes) old;
    new = All-nil (AreNewEnds out wire);
    routes_are = refl;
    near_are = ap reverse near_is ∙ reverse-reverse near;
    far_are = ap reverse far_is ∙ reverse-reverse far;
  })

  module _ (now : DialerSeen) (count : ℕ) (nears : List RxEnd) (fars : List TxEnd) (made : List (Proxied O I)) (so_far : IsUnderWay out wire routes near far old now count nears fars made) where
    pub as_many : count ≤ length routes → length made ≡ count
    as_many few = sym (length-map made route_of) ∙ ap length so_far.routes_are ∙ length-take-le count routes few

    pub near_left : count < length routes → length near ≡ length routes → nears ≡ [] → ⊥
    near_left few many none =
        let all : length near ≡ length made = none_left near_end_of near nears made so_far.near_are none in
        let here : length made ≡ count = as_many (omega arith) in
        absurd (omega arith)

    pub far_left : count < length routes → map (λ (end : TxEnd). end.seat.kind) far ≡ map kind_of routes → fars ≡ [] → ⊥
    far_left few kinds none =
        let all : length far ≡ length made = none_left far_end_of far fars made so_far.far_are none in
        let here : length made ≡ count = as_many (omega arith) in
        let many : length far ≡ length routes = sym (length-map far (λ (end : TxEnd). end.seat.kind)) ∙ ap length kinds ∙ length-map routes kind_of in
        absurd (omega arith)

    module _ (route : Route) (there : slice_get routes count ≡ Some route) where
      here : length made ≡ count
      here = as_many (let few : count < length routes = slice_get_within routes count route there in omega arith)

      pub channel_there : slice_get (map channel_of routes) count ≡ Some route.channel
      channel_there = slice_get-map channel_of routes count ∙ ap (λ o. option_map channel_of o) there

      pub near_unused : (nears' : List RxEnd) (end : RxEnd) → nears ≡ nears' ++ end ∷ [] → All (λ (e : RxEnd). e.seat.received ≡ []) near → end.seat.received ≡ []
      near_unused nears' end last every = end_is near_end_of near nears made so_far.near_are nears' end last (λ (e : RxEnd). e.seat.received ≡ []) count here every

      pub far_unused : (fars' : List TxEnd) (end : TxEnd) → fars ≡ fars' ++ end ∷ [] → All (λ (e : TxEnd). e.seat.sent ≡ []) far → end.seat.sent ≡ []
      far_unused fars' end last every = end_is far_end_of far fars made so_far.far_are fars' end last (λ (e : TxEnd). e.seat.sent ≡ []) count here every

      pub far_kind : (fars' : List TxEnd) (end : TxEnd) → fars ≡ fars' ++ end ∷ [] → map (λ (e : TxEnd). e.seat.kind) far ≡ map kind_of routes → end.seat.kind ≡ route.kind
      far_kind fars' end last kinds =
          let its : slice_get far count ≡ Some end = end_there far_end_of far fars made so_far.far_are fars' end last count here in
          same_Some end.seat.kind route.kind (ap (λ o. option_map (λ (e : TxEnd). e.seat.kind) o) (sym its) ∙ sym (slice_get-map (λ (e : TxEnd). e.seat.kind) far count) ∙ ap (λ l. slice_get l count) kinds ∙ slice_get-map kind_of routes count ∙ ap (λ o. option_map kind_of o) there)

      pub goes_on : (new : DialerSeen) (nears' : List RxEnd) (n : RxEnd) (fars' : List TxEnd) (f : TxEnd) (one : Proxied O I) → nears ≡ nears' ++ n ∷ [] → fars ≡ fars' ++ f ∷ [] → IsDialed out wire route n f one → DialedAll (route.channel ∷ []) now new → (made' : List (Proxied O I)) → made' ≡ made ++ one ∷ [] → IsUnderWay out wire routes near far old new (count + 1) nears' fars' made'
      goes_on new nears' n fars' f one near_last far_last is dialed made' pushed = subst (IsUnderWay out wire routes near far old new (count + 1) nears' fars') (sym pushed) (record {
        told = dialed_more (map channel_of routes) old count now new route.channel so_far.told channel_there dialed;
        new = All-push (AreNewEnds out wire) made one so_far.new is.new;
        routes_are = map_push route_of made one ∙ ap₂ (λ l r. l ++ r ∷ []) so_far.routes_are is.route_is ∙ ap (λ r. take count routes ++ r ∷ []) (sym (get_or_from_slice_get routes count route route there)) ∙ sym (take_more routes count route (slice_get_within routes count route there));
        near_are = end_taken near_end_of near nears made so_far.near_are nears' n near_last one is.near_is;
        far_are = end_taken far_end_of far fars made so_far.far_are fars' f far_last one is.far_is;
      })

    pub all_made : count ≡ length routes → length near ≡ length routes → map (λ (end : TxEnd). end.seat.kind) far ≡ map kind_of routes → AreDialed out wire routes near far made
    all_made all near_each kinds =
        let here : length made ≡ count = as_many (omega arith) in
        let far_each : length far ≡ length routes = sym (length-map far (λ (end : TxEnd). end.seat.kind)) ∙ ap length kinds ∙ length-map routes kind_of in
        record {
          new = so_far.new;
          routes_are = so_far.routes_are ∙ take_all count routes (omega arith);
          near_are = whole near_end_of near nears so_far.near_are (omega arith);
          far_are = whole far_end_of far fars so_far.far_are (omega arith);
        }
      where
        nothing : {X : Type 0} (l : List X) → length l ≡ 0 → l ≡ []
        nothing [] none = refl
        nothing (x ∷ l) none = absurd (omega arith)

        whole : {X : Type 0} (g : Proxied O I → X) (ends left : List X) → map g made ++ reverse left ≡ ends → length ends ≡ length made → map g made ≡ ends
        whole g ends left is many =
            let sum : length (map g made) + length (reverse left) ≡ length ends = sym (length-append (map g made) (reverse left)) ∙ ap length is in
            let mapped : length (map g made) ≡ length made = length-map made g in
            sym (append-nil (map g made)) ∙ ap (λ l. map g made ++ l) (sym (nothing (reverse left) (omega arith))) ∙ is

    pub all_told : count ≡ length routes → DialedAll (map channel_of routes) old now
    all_told all = subst (λ l. DialedAll l old now) (take_all count (map channel_of routes) (let mapped : length (map channel_of routes) ≡ length routes = length-map routes channel_of in omega arith)) so_far.told
