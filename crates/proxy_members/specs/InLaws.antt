-- A turn keeps a receiving end fit.
use Rattle.std.specs.Prelude.{Ok, Err}
use Rattle.std.proofs.Common.{◌≡◌, ◌++◌, refl, sym, subst}
use Rattle.cs_base.specs.Wires.{InSeen}
use Rattle.tcp_proxy.specs.declared.hop.Hop.{Hop}
use Rattle.tcp_proxy.specs.declared.hop.ProxyBad.{ProxyBad}
use Rattle.tcp_proxy.specs.declared.hop.ProxyBad.TheVariants as bad
use Rattle.std.specs.declared.result.Result.{Result}
use Rattle.tcp_proxy.specs.Receiving.{Carries, Meets}
use Rattle.proxy_members.specs.declared.in_member.InMember.{InMember}
use Rattle.proxy_members.specs.QueueEnds.{tx_kind, tx_stands}
use Rattle.proxy_members.specs.Inward.{InFits, InDid}

pub ok_not_err : (hop : Hop) (bad : ProxyBad) → (let answer : Result Hop ProxyBad = Ok hop in answer ≡ Err bad) → ⊥
ok_not_err hop bad e = absurd cc

-- the queue stands for what was put into it
pub meets_at : {I : Type 0} (seen : I → InSeen) (member : InMember I) → InFits seen member → Meets tx_kind tx_stands member.proxy.frames member.proxy.held member.proxy.kept member.far member.far.seat.sent
meets_at seen member fits = record { carries = fits.carries; port = refl; same_kind = fits.kind }

pub in_keeps : {I : Type 0} (seen : I → InSeen) (old new : InMember I) → InDid seen old new → InFits seen old → InFits seen new
in_keeps seen old new did fits =
    let meets : Meets tx_kind tx_stands new.proxy.frames new.proxy.held new.proxy.kept new.far (old.far.seat.sent ++ did.turned.messages) = did.turned.on (ok_not_err did.hop bad.NoMemory) old.far.seat.sent (meets_at seen old fits) in
    record {
      carries = subst (Carries new.proxy.frames new.proxy.held new.proxy.kept) (sym meets.port) meets.carries;
      kind = meets.same_kind;
      told = did.told fits.told;
    }
