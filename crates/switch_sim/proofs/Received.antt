-- What a switch that received a frame has done, put together.
use Rattle.std.specs.Prelude.{ℕ, ◌≡◌, Bool, List, [], ◌∷◌, ◌++◌, Result, Ok, Err, OnOk}
use Rattle.std.proofs.Common.{ap, ◌∙◌}
use Rattle.device_api.specs.Behaviour.{SendsAndLines}
use Rattle.device_api.specs.Gives.{Gives}
use Rattle.switch_sim.specs.declared.relay.Relay.{Relay}
use Rattle.switch_sim.specs.Table.{SwitchState, learn, is_news}
use Rattle.switch_sim.specs.Switch.{destination, source, relay, sends_of, line_of, news_lines, reaction_to}

pub on_ok : {T E P Q : Type 0} (r : Result T E) → (P → Q) → OnOk r P → OnOk r Q
on_ok (Ok x) f p = f p
on_ok (Err e) f p = tt

pub received : (s : SwitchState) (t port : ℕ) (frame : List ℕ) (learned : SwitchState) (news : Bool) (way : Relay) (before after : SendsAndLines) → learned ≡ learn s t (source frame) port → news ≡ is_news s t (source frame) port → way ≡ relay learned t port (destination frame) → after.lines ≡ before.lines ++ (news_lines news (source frame) port ++ line_of way ∷ []) → after.sends ≡ before.sends ++ sends_of s.ports port frame way → Gives (reaction_to s t port frame) learned before after
received s t port frame learned news way before after learned_is news_is way_is lines sends =
    let way_then : way ≡ relay (learn s t (source frame) port) t port (destination frame) = way_is ∙ ap (λ (l : SwitchState). relay l t port (destination frame)) learned_is in
    record {
      state_is = learned_is;
      sends_are = sends ∙ ap (λ (w : Relay). before.sends ++ sends_of s.ports port frame w) way_then;
      lines_are = lines ∙ ap (λ (b : Bool). before.lines ++ (news_lines b (source frame) port ++ line_of way ∷ [])) news_is ∙ ap (λ (w : Relay). before.lines ++ (news_lines (is_news s t (source frame) port) (source frame) port ++ line_of w ∷ [])) way_then;
    }
