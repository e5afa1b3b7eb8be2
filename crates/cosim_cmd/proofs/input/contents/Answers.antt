use Rattle.std.proofs.Common.{◌≡◌, ◌+◌, ◌<◌, ◌∷◌, ◌++◌, [], take, drop, length, sym, ◌∙◌, subst, arith}
use Rattle.cosim_cmd.specs.Refusals.{IsFault}
use Rattle.cosim_cmd.specs.Inputs.{AsksFor, AsksAtMost, IsReadAs, IsUnreadAs, AreTold}
use Rattle.cosim_cmd.proofs.Reading.{next_taken, whole_at, unread_next, asks_one_more, AsksFor-more, AreTold-push, IsTold-along}
use Rattle.cosim_cmd.proofs.input.contents.Goals as goal

pub loop-name-preserved : goal.loop-name-preserved
loop-name-preserved g c =
    let before = g.F.Files.seen c.args.files.now in
    let mid = g.F.Files.seen c.loop-name.files in
    let after = g.F.Files.seen c.content.new.files in
    let names = c.args.names.now in
    let n = c.loop-name.name-index in
    let item = c.name-item.result in
    let within : n < length names = omega (arith, c.loop-name-test.true) in
    let next : take (n + 1) names ≡ take n names ++ item ∷ [] = next_taken names n item within c.name-item.is in
    let bytes = c.in-Ok.content in
    let read : IsReadAs item mid after bytes = subst (λ name. IsReadAs name mid after bytes) c.as_str.ensures c.in-Ok.ensures.read in
    let asked : AsksFor (take n names ++ item ∷ []) before after = AsksFor-more (take n names) (item ∷ []) before mid after c.loop-name.invariant.asked read.asked in
    let told : AreTold before (take n names ++ item ∷ []) (c.loop-name.contents ++ bytes ∷ []) = AreTold-push before (take n names) c.loop-name.contents item bytes c.loop-name.invariant.told (IsTold-along before mid c.loop-name.invariant.kept item bytes read.told) in
    let told_all : AreTold before (take (n + 1) names) (c.loop-name.contents ++ bytes ∷ []) = subst (λ done. AreTold before done (c.loop-name.contents ++ bytes ∷ [])) (sym next) told in
    record {
      asked = subst (λ done. AsksFor done before after) (sym next) asked;
      told = subst (λ contents. AreTold before (take (n + 1) names) contents) (sym c.in_ok-push-in-Ok.ensures.ok) told_all;
      kept = c.content.ensures.files_kept ∙ c.loop-name.invariant.kept;
      no_fault = c.in-Ok.ensures.no_fault ∙ c.loop-name.invariant.no_fault;
    }

pub returns-in-Err-clause-refused : goal.returns-in-Err-clause-refused
returns-in-Err-clause-refused g c =
    let before = g.F.Files.seen c.args.files.now in
    let mid = g.F.Files.seen c.loop-name.files in
    let after = g.F.Files.seen c.content.new.files in
    let names = c.args.names.now in
    let n = c.loop-name.name-index in
    let item = c.name-item.result in
    let within : n < length names = omega (arith, c.loop-name-test.true) in
    let next : take (n + 1) names ≡ take n names ++ item ∷ [] = next_taken names n item within c.name-item.is in
    let why : IsFault (IsUnreadAs item mid after) c.in-Err.fault = subst (λ name. IsFault (IsUnreadAs name mid after) c.in-Err.fault) c.as_str.ensures c.in-Err.ensures.refused in
    unread_next before mid after (take n names) names item (drop (n + 1) names) (whole_at names n item next) c.loop-name.invariant.asked c.loop-name.invariant.no_fault c.in-Err.fault why

pub returns-in-Err-clause-asked : goal.returns-in-Err-clause-asked
returns-in-Err-clause-asked g c =
    let before = g.F.Files.seen c.args.files.now in
    let mid = g.F.Files.seen c.loop-name.files in
    let after = g.F.Files.seen c.content.new.files in
    let names = c.args.names.now in
    let n = c.loop-name.name-index in
    let item = c.name-item.result in
    let within : n < length names = omega (arith, c.loop-name-test.true) in
    let next : take (n + 1) names ≡ take n names ++ item ∷ [] = next_taken names n item within c.name-item.is in
    let most : AsksAtMost item mid after = subst (λ name. AsksAtMost name mid after) c.as_str.ensures c.content.ensures.asked in
    asks_one_more before mid after (take n names) names item (drop (n + 1) names) (whole_at names n item next) c.loop-name.invariant.asked most

pub returns-in_err-push-in-Ok-clause-asked : goal.returns-in_err-push-in-Ok-clause-asked
returns-in_err-push-in-Ok-clause-asked g c =
    let before = g.F.Files.seen c.args.files.now in
    let mid = g.F.Files.seen c.loop-name.files in
    let after = g.F.Files.seen c.content.new.files in
    let names = c.args.names.now in
    let n = c.loop-name.name-index in
    let item = c.name-item.result in
    let within : n < length names = omega (arith, c.loop-name-test.true) in
    let next : take (n + 1) names ≡ take n names ++ item ∷ [] = next_taken names n item within c.name-item.is in
    let most : AsksAtMost item mid after = subst (λ name. AsksAtMost name mid after) c.as_str.ensures c.content.ensures.asked in
    asks_one_more before mid after (take n names) names item (drop (n + 1) names) (whole_at names n item next) c.loop-name.invariant.asked most
