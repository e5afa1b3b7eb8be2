use Rattle.std.proofs.Common.{ℕ, ◌≡◌, List, [], ◌∷◌, ◌++◌, ap, ◌∙◌, append_assoc}
use Rattle.sb_message.specs.declared.message.Body.{Body}
use Rattle.switch_sim.specs.Table.{SwitchState, learn, is_news}
use Rattle.switch_sim.specs.Switch.{destination, source, relay, sends_of, line_of, news_lines}
use Rattle.switch_sim.proofs.Received.{on_ok, received}
use Rattle.switch_sim.proofs.switch.Switch.receive.Goals as goal

pub returns : goal.returns
returns c =
    let from : c.address_at-from.result ≡ source c.args.message = c.address_at-from.ensures ∙ ap (λ (f : List ℕ). source f) c.frame-2.ensures.bytes in
    let to : c.address_at-to.result ≡ destination c.args.message = c.address_at-to.ensures ∙ ap (λ (f : List ℕ). destination f) c.frame.ensures.bytes in
    let learned : c.learn-news.new.self ≡ learn c.args.self.now c.args.t (source c.args.message) c.args.port = c.learn-news.ensures.state ∙ ap (λ (f : List ℕ). learn c.args.self.now c.args.t f c.args.port) from in
    let news : c.learn-news.result ≡ is_news c.args.self.now c.args.t (source c.args.message) c.args.port = c.learn-news.ensures.news ∙ ap (λ (f : List ℕ). is_news c.args.self.now c.args.t f c.args.port) from in
    let way : c.relay-relay.result ≡ relay c.learn-news.new.self c.args.t c.args.port (destination c.args.message) = c.relay-relay.ensures ∙ ap (λ (f : List ℕ). relay c.learn-news.new.self c.args.t c.args.port f) to in
    let first : c.log_news.new.out.lines ≡ c.args.out.now.lines ++ news_lines c.learn-news.result (source c.args.message) c.args.port = c.in_ok-log_news.ensures.lines ∙ ap (λ (f : List ℕ). c.args.out.now.lines ++ news_lines c.learn-news.result f c.args.port) from in
    let lines : c.send.new.out.lines ≡ c.args.out.now.lines ++ (news_lines c.learn-news.result (source c.args.message) c.args.port ++ line_of c.relay-relay.result ∷ []) = c.send.ensures.lines ∙ c.in_ok-log.ensures.lines ∙ ap (λ (ls : List (List ℕ)). ls ++ line_of c.relay-relay.result ∷ []) first ∙ append_assoc c.args.out.now.lines (news_lines c.learn-news.result (source c.args.message) c.args.port) (line_of c.relay-relay.result ∷ []) in
    let kept : c.log.new.out.sends ≡ c.args.out.now.sends = c.in_ok-log.ensures.sends ∙ c.in_ok-log_news.ensures.sends in
    let ports : c.self.inside.config.ports ≡ c.args.self.now.ports = ap (λ (s : SwitchState). s.ports) c.self.view_is in
    on_ok c.send.result (λ sends. received c.args.self.now c.args.t c.args.port c.args.message c.learn-news.new.self c.learn-news.result c.relay-relay.result c.args.out.now c.send.new.out learned news way lines (sends ∙ ap (λ (ss : List (ℕ × Body)). ss ++ sends_of c.self.inside.config.ports c.args.port c.args.message c.relay-relay.result) kept ∙ ap (λ (n : ℕ). c.args.out.now.sends ++ sends_of n c.args.port c.args.message c.relay-relay.result) ports)) c.send.ensures.sends
