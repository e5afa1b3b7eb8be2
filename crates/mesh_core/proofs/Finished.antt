-- Runners that are finished one after another.
use Rattle.std.proofs.Common.{◌≡◌, List, [], ◌∷◌, ◌++◌, ◌+◌, ◌<◌, length, map, reverse, sym, ap, ◌∙◌, arith, append_assoc, append-nil, length-append}
use Rattle.std.proofs.lemmas.List.{length-map, map_push, reverse-append, reverse-reverse}
use Rattle.device_api.specs.declared.counts.Count.{Count}
use Rattle.device_api.specs.declared.logs.Line.{Line}
use Rattle.sync_rule.specs.declared.runner.Runner.{Runner}
use Rattle.mesh_core.specs.Left.{counts_by_port}

-- the first runners have left what they leave; those that are left stand in turned order
pub record IsFinishing {V : Type 0} (all : List (Runner V)) (logs : List (List Line)) (by_port : List (List Count)) (left : List (Runner V)) : Type 0 where
  pub done : List (Runner V)
  pub whole : done ++ reverse left ≡ all
  pub logged : logs ≡ map (λ r. r.log) done
  pub counted : by_port ≡ map counts_by_port done

module _ {V : Type 0} (all : List (Runner V)) where
  pub finishing_starts : (logs : List (List Line)) (by_port : List (List Count)) (left : List (Runner V)) → logs ≡ [] → by_port ≡ [] → left ≡ reverse all → IsFinishing all logs by_port left
  finishing_starts logs by_port left no_logs no_counts is = record { done = []; whole = ap reverse is ∙ reverse-reverse all; logged = no_logs; counted = no_counts }

  module _ (logs : List (List Line)) (by_port : List (List Count)) (left : List (Runner V)) (finishing : IsFinishing all logs by_port left) where
    done_now : left ≡ [] → finishing.done ≡ all
    done_now none = sym (append-nil finishing.done) ∙ ap (λ l. finishing.done ++ reverse l) (sym none) ∙ finishing.whole

    pub logs_done : left ≡ [] → logs ≡ map (λ r. r.log) all
    logs_done none = finishing.logged ∙ ap (map (λ r. r.log)) (done_now none)

    pub counts_done : left ≡ [] → by_port ≡ map counts_by_port all
    counts_done none = finishing.counted ∙ ap (map counts_by_port) (done_now none)

    module _ (left' : List (Runner V)) (r : Runner V) (first : left ≡ left' ++ r ∷ []) where
      whole_now : finishing.done ++ r ∷ reverse left' ≡ all
      whole_now = ap (λ l. finishing.done ++ l) (sym (ap reverse first ∙ reverse-append left' (r ∷ []))) ∙ finishing.whole

      pub room_left : length logs < length all
      room_left = (let logs_done : length logs ≡ length finishing.done = ap length finishing.logged ∙ length-map finishing.done (λ r. r.log) in let both : length (finishing.done ++ r ∷ reverse left') ≡ length all = ap length whole_now in let sum : length (finishing.done ++ r ∷ reverse left') ≡ length finishing.done + length (r ∷ reverse left') = length-append finishing.done (r ∷ reverse left') in omega arith)

      pub room_left_by_port : length by_port < length all
      room_left_by_port = (let counts_done : length by_port ≡ length finishing.done = ap length finishing.counted ∙ length-map finishing.done counts_by_port in let both : length (finishing.done ++ r ∷ reverse left') ≡ length all = ap length whole_now in let sum : length (finishing.done ++ r ∷ reverse left') ≡ length finishing.done + length (r ∷ reverse left') = length-append finishing.done (r ∷ reverse left') in omega arith)

      pub finishing_more : (logs' : List (List Line)) (by_port' : List (List Count)) → logs' ≡ logs ++ r.log ∷ [] → by_port' ≡ by_port ++ counts_by_port r ∷ [] → IsFinishing all logs' by_port' left'
      finishing_more logs' by_port' log_pushed counts_pushed = record {
        done = finishing.done ++ r ∷ [];
        whole = append_assoc finishing.done (r ∷ []) (reverse left') ∙ whole_now;
        logged = log_pushed ∙ ap (λ l. l ++ r.log ∷ []) finishing.logged ∙ sym (map_push (λ r. r.log) finishing.done r);
        counted = counts_pushed ∙ ap (λ l. l ++ counts_by_port r ∷ []) finishing.counted ∙ sym (map_push counts_by_port finishing.done r);
      }
