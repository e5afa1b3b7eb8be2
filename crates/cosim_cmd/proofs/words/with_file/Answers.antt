use Rattle.std.proofs.Common.{rules, ◌≡◌, ◌∙◌, ap, ap₂, true}
use Rattle.clap.specs.Walk.{rule_of}
use Rattle.clap.specs.Simple.{Shape, app_of, app_of_fields, new_app, on_top, with_rule}
use Rattle.cosim_cmd.specs.Said.{file_rule}
use Rattle.cosim_cmd.proofs.words.with_file.Goals as goal

pub returns : goal.returns
returns c =
    let name = c.args.name.now in
    let rule_is : rule_of c.required-file.result ≡ file_rule = search rules in
    let named : app_of c.no_binary_name.result ≡ on_top (λ (s : Shape). record s { no_binary_name = true }) (new_app name) =
    ap app_of_fields c.no_binary_name.ensures ∙ ap (on_top (λ (s : Shape). record s { no_binary_name = true })) c.new-2.ensures.app in
    let plain : app_of c.disable_help_flag.result ≡ on_top (λ (s : Shape). record s { no_binary_name = true; disable_help_flag = true }) (new_app name) =
    ap app_of_fields c.disable_help_flag.ensures ∙ ap (on_top (λ (s : Shape). record s { disable_help_flag = true })) named in
    c.in_ok-command.ensures.shape (search rules) ∙ ap₂ with_rule plain rule_is
