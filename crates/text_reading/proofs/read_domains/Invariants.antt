-- The loop of `read_domains`: the first i sizes are read.
use Rattle.std.proofs.Common.{◌≡◌, length, take}
use Rattle.text_words.specs.Reads.{words_at}
use Rattle.text_networks.specs.Findings.{values_in}
use Rattle.text_reading.proofs.Numbers.{Passed}
use Rattle.text_reading.proofs.read_domains.Given as goal

abbrev pub invariant-loop-i : goal.invariant-loop-i
invariant-loop-i l = record {
  passed : Passed l.s l.at l.i l.end;
  read : take l.i l.sizes ≡ values_in l.i (words_at l.s l.at);
  long : length l.sizes ≡ 24;
}
