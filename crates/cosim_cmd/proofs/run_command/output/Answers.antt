use Rattle.std.proofs.Common.{subst, sym}
use Rattle.std.proofs.lemmas.Result.{IfOk-weaker, IfErr-weaker}
use Rattle.cosim_cmd.specs.declared.refusal.OutputBad.{OutputBad}
use Rattle.cosim_cmd.specs.declared.threads.RunOutput.{RunOutput}
use Rattle.cosim_cmd.specs.Broken.{wires}
use Rattle.cosim_cmd.specs.Refusals.{IsFault}
use Rattle.cosim_cmd.specs.Sentence.{file_of}
use Rattle.cosim_cmd.specs.Inputs.{IsReadAs, IsUnreadAs}
use Rattle.cosim_cmd.specs.Threads.{as_serial, IsRunOf, IsRunBad}
use Rattle.cosim_cmd.proofs.Reading.{of_inputs, asks}
use Rattle.cosim_cmd.proofs.Threading.{run_lacks, run_dials, run_unread}
use Rattle.cosim_cmd.proofs.run_command.output.Goals as goal

pub returns-in-Ok-clause-made : goal.returns-in-Ok-clause-made
returns-in-Ok-clause-made g c =
    let run = c.args.words.now in
    let s = as_serial run in
    let w = wires g.D.Out.WireOut.seen g.D.In.WireIn.seen (g.D.Dialer.seen c.args.dial.now) (g.D.Dialer.seen c.run_of_text.new.dial) c.run_of_text.new.ends.items in
    let before = g.F.Files.seen c.args.files.now in
    let mid = g.F.Files.seen c.content.new.files in
    let after = g.F.Files.seen c.run_of_text.new.files in
    let named : IsReadAs (file_of s) before mid c.in-Ok.bytes = subst (λ name. IsReadAs name before mid c.in-Ok.bytes) c.file.ensures c.in-Ok.ensures.read in
    let read : IsReadAs (file_of s) before mid c.as_slice.result.now = subst (λ bytes. IsReadAs (file_of s) before mid bytes) (sym c.as_slice.ensures) named in
    IfOk-weaker c.run_of_text.result _ _ (λ (made : RunOutput). of_inputs s before mid after c.as_slice.result.now c.content.ensures.files_kept c.in-Ok.ensures.no_fault read (λ inputs. IsRunOf w run.stats inputs.text inputs.more made.text made.rests.items)) c.run_of_text.ensures.made

pub returns-in-Ok-clause-refused : goal.returns-in-Ok-clause-refused
returns-in-Ok-clause-refused g c =
    let run = c.args.words.now in
    let s = as_serial run in
    let w = wires g.D.Out.WireOut.seen g.D.In.WireIn.seen (g.D.Dialer.seen c.args.dial.now) (g.D.Dialer.seen c.run_of_text.new.dial) c.run_of_text.new.ends.items in
    let before = g.F.Files.seen c.args.files.now in
    let mid = g.F.Files.seen c.content.new.files in
    let after = g.F.Files.seen c.run_of_text.new.files in
    let named : IsReadAs (file_of s) before mid c.in-Ok.bytes = subst (λ name. IsReadAs name before mid c.in-Ok.bytes) c.file.ensures c.in-Ok.ensures.read in
    let read : IsReadAs (file_of s) before mid c.as_slice.result.now = subst (λ bytes. IsReadAs (file_of s) before mid bytes) (sym c.as_slice.ensures) named in
    IfErr-weaker c.run_of_text.result _ _ (run_lacks w run.file run.stats before mid after c.as_slice.result.now c.content.ensures.files_kept c.in-Ok.ensures.no_fault read) c.run_of_text.ensures.refused

pub returns-in-Ok-clause-asked : goal.returns-in-Ok-clause-asked
returns-in-Ok-clause-asked g c =
    let run = c.args.words.now in
    let s = as_serial run in
    let w = wires g.D.Out.WireOut.seen g.D.In.WireIn.seen (g.D.Dialer.seen c.args.dial.now) (g.D.Dialer.seen c.run_of_text.new.dial) c.run_of_text.new.ends.items in
    let before = g.F.Files.seen c.args.files.now in
    let mid = g.F.Files.seen c.content.new.files in
    let after = g.F.Files.seen c.run_of_text.new.files in
    let named : IsReadAs (file_of s) before mid c.in-Ok.bytes = subst (λ name. IsReadAs name before mid c.in-Ok.bytes) c.file.ensures c.in-Ok.ensures.read in
    let read : IsReadAs (file_of s) before mid c.as_slice.result.now = subst (λ bytes. IsReadAs (file_of s) before mid bytes) (sym c.as_slice.ensures) named in
    asks s before mid after c.as_slice.result.now c.content.ensures.files_kept c.in-Ok.ensures.no_fault read c.run_of_text.ensures.asked

pub returns-in-Ok-clause-dialed : goal.returns-in-Ok-clause-dialed
returns-in-Ok-clause-dialed g c =
    let run = c.args.words.now in
    let s = as_serial run in
    let w = wires g.D.Out.WireOut.seen g.D.In.WireIn.seen (g.D.Dialer.seen c.args.dial.now) (g.D.Dialer.seen c.run_of_text.new.dial) c.run_of_text.new.ends.items in
    let before = g.F.Files.seen c.args.files.now in
    let mid = g.F.Files.seen c.content.new.files in
    let after = g.F.Files.seen c.run_of_text.new.files in
    let named : IsReadAs (file_of s) before mid c.in-Ok.bytes = subst (λ name. IsReadAs name before mid c.in-Ok.bytes) c.file.ensures c.in-Ok.ensures.read in
    let read : IsReadAs (file_of s) before mid c.as_slice.result.now = subst (λ bytes. IsReadAs (file_of s) before mid bytes) (sym c.as_slice.ensures) named in
    run_dials w run.file run.stats before mid after c.as_slice.result.now c.content.ensures.files_kept c.in-Ok.ensures.no_fault read c.run_of_text.ensures.dialed

pub returns-in-Err-clause-refused : goal.returns-in-Err-clause-refused
returns-in-Err-clause-refused g c =
    let s = as_serial c.args.words.now in
    let w = wires g.D.Out.WireOut.seen g.D.In.WireIn.seen (g.D.Dialer.seen c.args.dial.now) (g.D.Dialer.seen c.args.dial.now) c.args.ends.now.items in
    let before = g.F.Files.seen c.args.files.now in
    let after = g.F.Files.seen c.content.new.files in
    let why : IsFault (IsUnreadAs (file_of s) before after) c.in-Err.fault = subst (λ name. IsFault (IsUnreadAs name before after) c.in-Err.fault) c.file.ensures c.in-Err.ensures.refused in
    subst (λ (bad : OutputBad). IsRunBad w s before after bad) (sym c.unread.ensures) (run_unread w s before after c.in-Err.fault why)
