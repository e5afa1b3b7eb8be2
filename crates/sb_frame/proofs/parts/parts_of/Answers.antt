use Rattle.std.proofs.Common.{refl}
use Rattle.field_layout.proofs.Layouts.{blank}
use Rattle.sb_frame.proofs.parts.parts_of.Goals as goal

pub returns-in-Sync-clause-row : goal.returns-in-Sync-clause-row
returns-in-Sync-clause-row c = rw c.in-Sync.is (record { is_type = refl; laid_out = blank; no_payload = refl })
