-- A deframer stands for the stream with the piece, too.
use Rattle.std.specs.Prelude.{Option, Some, None, MatchOption, IfSome}
use Rattle.std.proofs.Common.{inl, ◌≡◌, ℕ, ◌+◌, ◌<◌, ◌≤◌, List, [], ◌∷◌, ◌++◌, length, take, drop, ap, sym, refl, subst, arith, append_assoc, ◌∙◌}
use Rattle.std.proofs.lemmas.List.{take-append-drop}
use Rattle.cs_base.specs.declared.port_kind.PortKind.{PortKind}
use Rattle.sb_frame.specs.Frames.AreFrames.{none_yet}
use Rattle.sb_message.specs.declared.message.Msg.{Msg}
use Rattle.sb_frame.specs.declared.frame_bad.FrameBad.{FrameBad}
use Rattle.sb_frame.specs.Frames.{IsOpen, AreFrames}
use Rattle.sb_frame.specs.Faults.{KeepsRule, IsRefused, FirstFault}
use Rattle.sb_frame.specs.Deframing.{Place, Reached, Deframing, StopsAt, IsBehind, Stands, ReadsTo, StopsIn, FinishesIn, StaysOpen, NextIs}

-- without a fault, what is behind the accepted frames is the frame that is begun
pub record IsOpenAt (d : Deframing) (stream : List ℕ) (given : List Msg) : Type 0 where
  pub before : List ℕ
  pub parts : stream ≡ before ++ d.begun
  pub reached : Reached d.place given before
  pub opened : IsOpen d.begun

pub opens_at : (d : Deframing) (stream : List ℕ) (given : List Msg) → d.fault ≡ None → Stands d stream given → IsOpenAt d stream given
opens_at d stream given none s =
    let behind : IsBehind d.place d.begun None s.rest = subst (λ f. IsBehind d.place d.begun f s.rest) none s.behind in
    record { before = s.before; parts = s.parts ∙ ap (λ l. s.before ++ l) behind.0; reached = s.reached; opened = behind.1 }

stands_open : (d : Deframing) (stream before : List ℕ) (given : List Msg) → d.fault ≡ None → stream ≡ before ++ d.begun → Reached d.place given before → IsOpen d.begun → Stands d stream given
stands_open d stream before given none parts reached opened = record {
  before = before;
  rest = d.begun;
  parts = parts;
  reached = reached;
  behind = subst (λ f. IsBehind d.place d.begun f d.begun) (sym none) (refl, opened);
}

pub stays : (old new : Deframing) (stream piece : List ℕ) (given : List Msg) → old.fault ≡ None → new.fault ≡ None → StaysOpen old piece new → Stands old stream given → Stands new (stream ++ piece) given
stays old new stream piece given none still open_still s =
    let o = opens_at old stream given none s in
    let parts : stream ++ piece ≡ o.before ++ new.begun = ap (λ l. l ++ piece) o.parts ∙ append_assoc o.before old.begun piece ∙ ap (λ l. o.before ++ l) (sym open_still.begun) in
    stands_open new (stream ++ piece) o.before given still parts (subst (λ p. Reached p given o.before) (sym open_still.place) o.reached) open_still.is_open

-- the stream with the piece, by the frames that were read in it
in_parts : (stream piece before begun : List ℕ) (n r : ℕ) → stream ≡ before ++ begun → stream ++ piece ≡ ((before ++ (begun ++ take n piece)) ++ take r (drop n piece)) ++ drop r (drop n piece)
in_parts stream piece before begun n r parts =
    let rest : take r (drop n piece) ++ drop r (drop n piece) ≡ drop n piece = take-append-drop r (drop n piece) in
    let all : take n piece ++ drop n piece ≡ piece = take-append-drop n piece in
    let left : stream ++ piece ≡ before ++ (begun ++ piece) = ap (λ l. l ++ piece) parts ∙ append_assoc before begun piece in
    let right : ((before ++ (begun ++ take n piece)) ++ take r (drop n piece)) ++ drop r (drop n piece) ≡ before ++ (begun ++ piece) =
    append_assoc (before ++ (begun ++ take n piece)) (take r (drop n piece)) (drop r (drop n piece))
    ∙ ap (λ l. (before ++ (begun ++ take n piece)) ++ l) rest
    ∙ append_assoc before (begun ++ take n piece) (drop n piece)
    ∙ ap (λ l. before ++ l) (append_assoc begun (take n piece) (drop n piece) ∙ ap (λ l. begun ++ l) all) in
    left ∙ sym right

pub goes_on : (old mid new : Deframing) (stream piece : List ℕ) (given : List Msg) (n r : ℕ) → old.fault ≡ None → new.fault ≡ None → FinishesIn old piece mid n → ((given : List Msg) (before : List ℕ) → Reached mid.place given before → ReadsTo new.place given before (drop n piece) r) → new.begun ≡ drop r (drop n piece) → Stands old stream given → Stands new (stream ++ piece) given
goes_on old mid new stream piece given n r none still finishes reads begun s =
    let o = opens_at old stream given none s in
    let front = o.before ++ (old.begun ++ take n piece) in
    let done = reads given front (finishes.reached given o.before o.reached) in
    let at = front ++ take r (drop n piece) in
    let parts : stream ++ piece ≡ at ++ new.begun = in_parts stream piece o.before old.begun n r o.parts ∙ ap (λ l. at ++ l) (sym begun) in
    stands_open new (stream ++ piece) at given still parts done.reached (subst IsOpen (sym begun) done.open_rest)

pub stops_begun : (old new : Deframing) (stream piece : List ℕ) (given : List Msg) (b : FrameBad) → old.fault ≡ None → new.place ≡ old.place → StopsAt old.place (old.begun ++ piece) b → Stands old stream given → Stands (record new { fault = Some b }) (stream ++ piece) given
stops_begun old new stream piece given b none same stops s =
    let o = opens_at old stream given none s in
    record {
      before = o.before;
      rest = old.begun ++ piece;
      parts = ap (λ l. l ++ piece) o.parts ∙ append_assoc o.before old.begun piece;
      reached = subst (λ p. Reached p given o.before) (sym same) o.reached;
      behind = subst (λ p. StopsAt p (old.begun ++ piece) b) (sym same) stops;
    }

pub stops_later : (old mid new : Deframing) (stream piece : List ℕ) (given : List Msg) (n : ℕ) (b : FrameBad) → old.fault ≡ None → FinishesIn old piece mid n → ((given : List Msg) (before : List ℕ) → Reached mid.place given before → StopsIn new.place given before (drop n piece) b) → Stands old stream given → Stands (record new { fault = Some b }) (stream ++ piece) given
stops_later old mid new stream piece given n b none finishes reads s =
    let o = opens_at old stream given none s in
    let front = o.before ++ (old.begun ++ take n piece) in
    let stop = reads given front (finishes.reached given o.before o.reached) in
    record {
      before = front ++ take stop.read (drop n piece);
      rest = drop stop.read (drop n piece);
      parts = in_parts stream piece o.before old.begun n stop.read o.parts;
      reached = stop.reached;
      behind = stop.stops;
    }

-- a fault stays as it is, whatever follows
pub stays_bad : (d : Deframing) (stream piece : List ℕ) (given : List Msg) (b : FrameBad) → d.fault ≡ Some b → Stands d stream given → Stands d (stream ++ piece) given
stays_bad d stream piece given b is s =
    let stops : StopsAt d.place s.rest b = subst (λ f. IsBehind d.place d.begun f s.rest) is s.behind in
    record {
      before = s.before;
      rest = s.rest ++ piece;
      parts = ap (λ l. l ++ piece) s.parts ∙ append_assoc s.before s.rest piece;
      reached = s.reached;
      behind = subst (λ f. IsBehind d.place d.begun f (s.rest ++ piece)) (sym is) (record {
        begun = stops.begun;
        more = stops.more ++ piece;
        parts = ap (λ l. l ++ piece) stops.parts ∙ append_assoc stops.begun stops.more piece;
        refused = stops.refused;
      });
    }

-- a deframer to which nothing has come
pub begins : (place : Place) (begun : List ℕ) (kind : PortKind) → place ≡ record { kind = kind; last = None; offset = 0; waiting = [] } → begun ≡ [] → Stands (record { place = place; begun = begun; fault = None }) [] []
begins place begun kind at none =
    let first : Stands (record { place = record { kind = kind; last = None; offset = 0; waiting = [] }; begun = []; fault = None }) [] [] = record {
      before = [];
      rest = [];
      parts = refl;
      reached = record { frames = none_yet; rule = refl; counted = refl };
      behind = (refl, inl (omega arith));
    } in
    subst (λ l. Stands (record { place = place; begun = l; fault = None }) [] []) (sym none) (subst (λ p. Stands (record { place = p; begun = []; fault = None }) [] []) (sym at) first)

-- what is behind doesn't hang on the messages that wait
behind_too : (place : Place) (waiting : List Msg) (begun : List ℕ) (f : Option FrameBad) (rest : List ℕ) → IsBehind (record place { waiting = waiting }) begun f rest → IsBehind place begun f rest
behind_too place waiting begun None rest behind = behind
behind_too place waiting begun (Some b) rest stops = record { begun = stops.begun; more = stops.more; parts = stops.parts; refused = stops.refused }

-- a message that is handed out is given
pub hands_out : (a b : Deframing) (m : Msg) (stream : List ℕ) (given : List Msg) → NextIs a m b → Stands a stream given → Stands b stream (given ++ m ∷ [])
hands_out a b m stream given is s =
    let w = b.place.waiting in
    let t : Stands (record b { place = record b.place { waiting = m ∷ w } }) stream given = subst (λ d. Stands d stream given) is s in
    let moved : given ++ (m ∷ w) ≡ (given ++ m ∷ []) ++ w = sym (append_assoc given (m ∷ []) w) in
    record {
      before = t.before;
      rest = t.rest;
      parts = t.parts;
      reached = record {
        frames = subst (λ l. AreFrames b.place.kind l t.before) moved t.reached.frames;
        rule = subst (λ l. KeepsRule b.place.kind l b.place.last) moved t.reached.rule;
        counted = t.reached.counted;
      };
      behind = behind_too b.place (m ∷ w) b.begun b.fault t.rest t.behind;
    }

-- the fault of a deframer is the first of its stream
pub is_first_fault : (d : Deframing) (stream : List ℕ) (given : List Msg) (b : FrameBad) → d.fault ≡ Some b → Stands d stream given → FirstFault d.place.kind stream b
is_first_fault d stream given b is s =
    let stops : StopsAt d.place s.rest b = subst (λ f. IsBehind d.place d.begun f s.rest) is s.behind in
    record {
      messages = given ++ d.place.waiting;
      last = d.place.last;
      before = s.before;
      begun = stops.begun;
      more = stops.more;
      parts = s.parts ∙ ap (λ l. s.before ++ l) stops.parts;
      frames = s.reached.frames;
      rule = s.reached.rule;
      refused = subst (λ start. IsRefused d.place.kind d.place.last start stops.begun b) (sym s.reached.counted) stops.refused;
    }

pub next_stands : (r : Option Msg) (a : Deframing) (new : Place) (stream : List ℕ) (given : List Msg) → MatchOption r ((a.place.waiting ≡ []) × (new ≡ a.place)) (λ m. a.place ≡ record new { waiting = m ∷ new.waiting }) → Stands a stream given → IfSome r (λ m. Stands (record a { place = new }) stream (given ++ m ∷ []))
next_stands None a new stream given is s = tt
next_stands (Some m) a new stream given is s = hands_out a (record a { place = new }) m stream given (ap (λ (p : Place). record a { place = p }) is) s
