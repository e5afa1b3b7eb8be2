use Rattle.std.proofs.Common.{ℕ, ◌≡◌, ◌*◌, ◌++◌, Bool, List, length, ap, ap₂, sym, subst, ◌∙◌}
use Rattle.std.proofs.lemmas.List.{length-map}
use Rattle.device_set.specs.AnyKind.{any_device}
use Rattle.device_api.specs.World.{global_until, logs_of}
use Rattle.device_api.specs.GlobalCounts.{counts_of}
use Rattle.device_api.specs.Joined.{joined_until}
use Rattle.device_api.specs.declared.logs.Line.{Line}
use Rattle.log_join.specs.Before.{AreBefore}
use Rattle.cs_base.specs.declared.link.Link.{Link}
use Rattle.channel_stats.specs.Statistics.{statistics}
use Rattle.topology_file.specs.Ports.{names_of, ports_of}
use Rattle.topology_file.specs.declared.component.Component.{Component}
use Rattle.cosim_cmd.specs.Model.{network_of, joined_log, run_statistics, run_text}
use Rattle.cosim_cmd.proofs.ChannelNumbers.{length-counts}
use Rattle.cosim_cmd.proofs.LogTimes.{logs_of-before, length-logs_of}
use Rattle.cosim_cmd.proofs.outcomes.outcome_text.Goals as goal

pub join-requires : goal.join-requires
join-requires c =
    let t = c.args.topology.now in
    let some = c.requires.0 in
    let is = c.requires.1 in
    let names : length c.as_slice-2.result.now ≡ length t.components =
    ap length c.as_slice-2.ensures.value ∙ ap length c.in_ok-names.ensures ∙ ap (λ (components : List Component). length (names_of components)) c.as_slice.ensures ∙ length-map t.components (λ (component : Component). component.name) in
    let net = network_of t some in
    let lists : c.args.outcome.now.logs.lists ≡ logs_of (global_until net t.wiring.end) = is.logs in
    let devices : length some ≡ length t.components =
    sym (length-map some any_device.ports) ∙ ap length (is.matches ∙ t.valid.kinds_of_ports) ∙ length-map t.components (λ (component : Component). ports_of component.config) in
    names ∙ sym devices ∙ sym (length-logs_of net t.wiring.end) ∙ sym (ap length lists)

pub returns-then-not-stats : goal.returns-then-not-stats
returns-then-not-stats c =
    λ devices is.
    let t = c.args.topology.now in
    let end = t.wiring.end in
    let net = network_of t devices in
    let lists : c.args.outcome.now.logs.lists ≡ logs_of (global_until net end) = is.logs in
    let names : c.as_slice-2.result.now ≡ names_of t.components = c.as_slice-2.ensures.value ∙ c.in_ok-names.ensures ∙ ap names_of c.as_slice.ensures in
    let before : AreBefore end c.args.outcome.now.logs.lists = subst (λ (logs : List (List Line)). AreBefore end logs) (sym lists) (logs_of-before net end) in
    let joined : c.in_ok-text.text ≡ joined_log t devices =
    c.in_ok-text.ensures end before ∙ ap (λ (names : List (List ℕ)). joined_until end names c.args.outcome.now.logs.lists) names ∙ ap (joined_until end (names_of t.components)) lists in
    subst (λ (stats : Bool). c.in_ok-text.text ≡ run_text stats t devices) (sym c.if-not-stats.true) joined

pub channel_lines-requires-clause-counted : goal.channel_lines-requires-clause-counted
channel_lines-requires-clause-counted c =
    let t = c.args.topology.now in
    let net = network_of t c.requires.0 in
    let links : c.as_slice-links.result.now ≡ t.wiring.links = c.as_slice-links.ensures in
    let counts : c.as_slice-4.result.now ≡ counts_of net t.wiring.end = c.as_slice-4.ensures ∙ c.requires.1.counts in
    ap length counts ∙ length-counts net t.wiring.end ∙ sym (ap (λ (links : List Link). 2 * length links) links)

pub returns : goal.returns
returns c =
    λ devices is.
    let t = c.args.topology.now in
    let end = t.wiring.end in
    let net = network_of t devices in
    let lists : c.args.outcome.now.logs.lists ≡ logs_of (global_until net end) = is.logs in
    let names : c.as_slice-2.result.now ≡ names_of t.components = c.as_slice-2.ensures.value ∙ c.in_ok-names.ensures ∙ ap names_of c.as_slice.ensures in
    let again : c.as_slice-3.result.now ≡ names_of t.components = c.as_slice-3.ensures.value ∙ c.in_ok-names.ensures ∙ ap names_of c.as_slice.ensures in
    let before : AreBefore end c.args.outcome.now.logs.lists = subst (λ (logs : List (List Line)). AreBefore end logs) (sym lists) (logs_of-before net end) in
    let joined : c.in_ok-text.text ≡ joined_log t devices =
    c.in_ok-text.ensures end before ∙ ap (λ (names : List (List ℕ)). joined_until end names c.args.outcome.now.logs.lists) names ∙ ap (joined_until end (names_of t.components)) lists in
    let links : c.as_slice-links.result.now ≡ t.wiring.links = c.as_slice-links.ensures in
    let counts : c.as_slice-4.result.now ≡ counts_of net end = c.as_slice-4.ensures ∙ is.counts in
    let lines : c.as_slice-5.result.now ≡ run_statistics t devices =
    c.as_slice-5.ensures ∙ c.in_ok-lines.ensures ∙ ap (λ (names : List (List ℕ)). statistics names c.as_slice-links.result.now c.as_slice-4.result.now) again
    ∙ ap₂ (statistics (names_of t.components)) links counts in
    let both : c.append.new.self ≡ joined_log t devices ++ run_statistics t devices =
    c.in_ok-append.ensures.ok ∙ ap₂ (λ (log statistics : List ℕ). log ++ statistics) joined lines in
    subst (λ (stats : Bool). c.append.new.self ≡ run_text stats t devices) (sym c.if-not-stats.false) both
