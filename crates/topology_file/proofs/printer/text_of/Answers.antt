use Rattle.std.proofs.Common.{◌≡◌, ap, ◌∙◌, string_bytes}
use Rattle.std.proofs.lemmas.Str.{IsUtf8-string_bytes}
use Rattle.topology_file.proofs.printer.text_of.Goals as goal

pub returns-in-Ok-clause-text : goal.returns-in-Ok-clause-text
returns-in-Ok-clause-text c =
    let same : c.from_vec.result ≡ string_bytes c.in-Ok.text = c.from_vec.ensures ∙ ap (λ bytes. bytes.items) c.into_bytes.ensures.value in
    rw same c.in-Ok.ensures.text

pub returns-in-Ok-clause-document : goal.returns-in-Ok-clause-document
returns-in-Ok-clause-document c =
    let same : c.from_vec.result ≡ string_bytes c.in-Ok.text = c.from_vec.ensures ∙ ap (λ bytes. bytes.items) c.into_bytes.ensures.value in
    rw same (record { utf8 = IsUtf8-string_bytes c.in-Ok.text; parsed = c.in-Ok.ensures.reads_back c.requires })
