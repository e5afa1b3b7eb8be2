use Rattle.std.proofs.Common.{◌≡◌, List, ap, ap₂, ◌∙◌, replicate}
use Rattle.std.proofs.lemmas.Result.{IfOk-weaker}
use Rattle.device_api.specs.World.{Network, global_until, logs_of}
use Rattle.device_api.specs.GlobalCounts.{counts_of}
use Rattle.device_set.specs.AnyKind.{any_device}
use Rattle.device_set.specs.declared.any_device.AnyDevice.{AnyDevice}
use Rattle.device_set.specs.Starts.{starts_of, too_long}
use Rattle.global_model.specs.Step.{network}
use Rattle.load_run.specs.Summary.{summary}
use Rattle.load_run.specs.Load.{network_of}
use Rattle.load_run.proofs.Roomy.{none_too_long}
use Rattle.load_run.proofs.run.load_summary.Goals as goal

pub started-requires : goal.started-requires
started-requires c =
    let t = c.in_ok-topology.topology in
    ap (too_long t) c.in_ok-images.ensures ∙ none_too_long c.args.stations c.requires.least c.requires.most t.components c.in_ok-topology.ensures.members_are c.in_ok-program.program c.in_ok-program.ensures.fits

pub returns : goal.returns
returns c =
    let n = c.args.stations in
    let t = c.in_ok-topology.topology in
    let program = c.in_ok-program.program in
    let end = t.wiring.end in
    let devices : c.in_ok-devices.devices.items ≡ starts_of t.components (replicate n program) = c.in_ok-devices.ensures.starts ∙ ap (starts_of t.components) c.in_ok-images.ensures in
    let nets : network any_device c.in_ok-devices.devices.items t.wiring.links ≡ network_of t n program = ap (λ (starts : List AnyDevice). network any_device starts t.wiring.links) devices in
    let logs : c.in_ok-outcome.outcome.logs.lists ≡ logs_of (global_until (network_of t n program) end) = c.in_ok-outcome.ensures.logs ∙ ap (λ (net : Network AnyDevice). logs_of (global_until net end)) nets in
    let counts : c.in_ok-outcome.outcome.counts ≡ counts_of (network_of t n program) end = c.in_ok-outcome.ensures.counts ∙ ap (λ (net : Network AnyDevice). counts_of net end) nets in
    IfOk-weaker c.summary.result _ _ (λ text is. record {
      topology = t;
      generated = c.in_ok-topology.ensures;
      program = program;
      assembled_is = c.in_ok-program.ensures.assembled;
      text_is = is ∙ ap₂ (summary n t) logs counts;
    }) c.summary.ensures
