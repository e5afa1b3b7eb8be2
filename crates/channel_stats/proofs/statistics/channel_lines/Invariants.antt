use Rattle.channel_stats.proofs.Remaining.{Remain}
use Rattle.channel_stats.proofs.statistics.channel_lines.Given as goal

abbrev pub invariant-loop-number : goal.invariant-loop-number
invariant-loop-number l = Remain l.names l.counts l.links l.text l.number
