use Rattle.std.specs.Prelude.{◌++◌, ◌+◌, length}
use Rattle.std.proofs.Common.{refl, arith, ap, ◌∙◌}
use Rattle.std.specs.Int.{w64, to_le_bytes}
use Rattle.sb_frame.proofs.Framed.{framed}
use Rattle.sb_frame.proofs.framing.frame_reserved.Goals as goal

pub returns : goal.returns
returns c =
    let parts = c.parts_of-parts in
    let size = 64 + length parts.result.payload.now in
    let head = c.put.ensures.items ∙ ap (λ l. c.args.out.now.items ++ l) c.to_le_bytes.ensures in
    let timestamp = c.to_le_bytes-2.ensures ∙ ap (to_le_bytes w64) c.picoseconds.ensures in
    let second = c.put-3.ensures.items ∙ ap (λ l. c.put-2.new.out.items ++ l) timestamp in
    framed c.args.m.now parts.result.ty size parts.result.fields parts.result.payload.now c.args.out.now.items c.put.new.out.items c.put-2.new.out.items c.put-3.new.out.items c.put-4.new.out.items c.put-5.new.out.items
    parts.ensures.row parts.ensures.small (omega (arith, c.picoseconds.ensures, c.picoseconds.type_inv)) parts.ensures.wide refl head c.put-2.ensures.items second c.put-4.ensures.items c.put-5.ensures.items
