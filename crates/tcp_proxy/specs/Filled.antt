-- A plain queue that holds all that a receiving end has pushed.
use Rattle.std.specs.Prelude.{ℕ, ◌≡◌, List}
use Rattle.sb_message.specs.declared.message.Msg.{Msg}
use Rattle.port_queue.specs.Plain.{Plain, StandsForSent}
use Rattle.tcp_proxy.specs.Receiving.{Incoming, Meets}

pub record IsFilled {I : Type 0} (p : Incoming I) (queue : Plain) : Type 0 where
  pub pushed : List Msg
  pub meets : Meets (λ (q : Plain). q.kind) StandsForSent p.frames p.held p.kept queue pushed
  pub held : queue.held ≡ pushed
