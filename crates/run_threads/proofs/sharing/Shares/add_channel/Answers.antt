use Rattle.std.proofs.Common.{◌++◌, ◌∷◌, [], subst}
use Rattle.std.proofs.lemmas.Result.{on_ok_weaker}
use Rattle.run_threads.specs.Sharing.{AreOf, Shared}
use Rattle.run_threads.proofs.SharedOut.{share_two}
use Rattle.run_threads.proofs.sharing.Shares.add_channel.Goals as goal

pub returns-in_ok-add_between-in-Proxy-clause-shared : goal.returns-in_ok-add_between-in-Proxy-clause-shared
returns-in_ok-add_between-in-Proxy-clause-shared c =
    let near = c.next-sender.result.queue.now in
    let far = c.next-last.result.queue.now in
    on_ok_weaker c.add-in-Proxy.result (λ second of are. subst (λ (x : Shared). AreOf x c.add-in-Proxy.new.self) (share_two c.args.queues.now c.args.via c.args.left.now.at c.next-sender.new.self.at near far c.in-Proxy.is c.next-sender.ensures.queue c.next-sender.ensures.at c.next-last.ensures.queue of) (second (record of { between_near = of.between_near ++ near ∷ []; between_far = of.between_far ++ far ∷ [] }) (c.in_ok-add_between-in-Proxy.ensures of are))) c.add-in-Proxy.ensures
