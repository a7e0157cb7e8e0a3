use Rattle.fx_lasting.proofs.{◌≡◌, ◌-◌, ◌+◌, ◌≤◌, map, vec_capacity, stocks_back}
use Rattle.fx_lasting.proofs.life.open.first_stocks.Given as goal

abbrev pub invariant-loop-pass : goal.invariant-loop-pass
invariant-loop-pass l = record {
  items : map (λ s. s.items) l.stocks.items ≡ stocks_back l.size l.passes l.installing (l.pass + 1) (l.passes - l.pass);
  most : l.pass ≤ l.passes;
  room : l.passes ≤ vec_capacity l.stocks;
}

abbrev pub decreases-loop-pass : goal.decreases-loop-pass
decreases-loop-pass l = l.pass
