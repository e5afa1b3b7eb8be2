use Rattle.std.proofs.Common.{◌-◌, replicate, take, ap, subst, sym, ◌∙◌, arith}
use Rattle.std.specs.Prelude.{option_map}
use Rattle.std.specs.List.{slice_range}
use Rattle.std.proofs.lemmas.Result.{err_from_is_err_and}
use Rattle.std.proofs.lemmas.List.{length-take-le, take_rest}
use Rattle.field_layout.proofs.Layouts.{same_from_ne, differ_from_ne}
use Rattle.sb_message.specs.Spelling.{SpellsBody, body_refusal}
use Rattle.sb_message.specs.declared.msg_bad.MsgBad.TheVariants.{Upper}
use Rattle.sb_message.proofs.Spellings.{known, parsed, refusal-reserved, refusal-body}
use Rattle.sb_message.proofs.reading.parse.Goals as goal

pub returns-then-ne-clause-refused : goal.returns-then-ne-clause-refused
returns-then-ne-clause-refused c =
    let bytes = c.args.bytes.now in
    let typed = sym c.is_type_of.ensures ∙ c.if-not-is_type_of.false in
    let differs = differ_from_ne (slice_range bytes 56 63) (replicate 7 0) c.ne.ensures c.if-ne.true in
    sym (refusal-reserved c.args.kind bytes c.u8_at-last.result c.if-bytes-lt-HEADER_BYTES.false c.u8_at-last.ensures.value c.if-last-lt-OWNER_BIT.false typed (λ same. differs (sym same)))

pub read_body-requires-clause-whole : goal.read_body-requires-clause-whole
read_body-requires-clause-whole c = length-take-le 48 c.args.bytes.now (omega arith)

pub read_body-requires-clause-known : goal.read_body-requires-clause-known
read_body-requires-clause-known c = known c.args.kind (c.u8_at-last.result - 128) (sym c.is_type_of.ensures ∙ c.if-not-is_type_of.false)

pub returns-in_err-body-clause-refused : goal.returns-in_err-body-clause-refused
returns-in_err-body-clause-refused c =
    let bytes = c.args.bytes.now in
    let typed = sym c.is_type_of.ensures ∙ c.if-not-is_type_of.false in
    let zeros = same_from_ne (slice_range bytes 56 63) (replicate 7 0) c.ne.ensures c.if-ne.false in
    let p = err_from_is_err_and c.from_residual.result c.from_residual.ensures.1 in
    rw (p.1, p.2) (c.in_err-body.ensures.refused ∙ ap (λ payload. option_map Upper (body_refusal (c.u8_at-last.result - 128) (take 48 bytes) payload)) (take_rest bytes 64) ∙ sym (refusal-body c.args.kind bytes c.u8_at-last.result c.if-bytes-lt-HEADER_BYTES.false c.u8_at-last.ensures.value c.if-last-lt-OWNER_BIT.false typed zeros))

pub returns-clause-found : goal.returns-clause-found
returns-clause-found c =
    let bytes = c.args.bytes.now in
    let typed = sym c.is_type_of.ensures ∙ c.if-not-is_type_of.false in
    let zeros = same_from_ne (slice_range bytes 56 63) (replicate 7 0) c.ne.ensures c.if-ne.false in
    parsed c.args.kind c.u64_at.result c.u8_at-last.result c.in_ok-body.body bytes c.u8_at-last.ensures.held c.if-last-lt-OWNER_BIT.false typed zeros c.u64_at.ensures.held (subst (SpellsBody c.in_ok-body.body (c.u8_at-last.result - 128) (take 48 bytes)) (take_rest bytes 64) c.in_ok-body.ensures.found)

pub returns-clause-refused : goal.returns-clause-refused
returns-clause-refused c =
    let bytes = c.args.bytes.now in
    let typed = sym c.is_type_of.ensures ∙ c.if-not-is_type_of.false in
    let zeros = same_from_ne (slice_range bytes 56 63) (replicate 7 0) c.ne.ensures c.if-ne.false in
    c.in_ok-body.ensures.refused ∙ ap (λ payload. option_map Upper (body_refusal (c.u8_at-last.result - 128) (take 48 bytes) payload)) (take_rest bytes 64) ∙ sym (refusal-body c.args.kind bytes c.u8_at-last.result c.if-bytes-lt-HEADER_BYTES.false c.u8_at-last.ensures.value c.if-last-lt-OWNER_BIT.false typed zeros)
