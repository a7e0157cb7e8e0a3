use Rattle.check_outcomes.proofs.{IfOk-weaker, Clears, Looks, Puts, Takes, the_one}
use Rattle.check_outcomes.proofs.answering.accesses_of.Goals as goal

pub returns-in-Look : goal.returns-in-Look
returns-in-Look c = rw c.in-Look.is (IfOk-weaker c.one.result _ _
    (λ choices are a x may. the_one _ (Looks c.in-Look.slot) are c.found_at.ensures x.1 (λ p. p.1) may) c.one.ensures)

pub returns-in-Put : goal.returns-in-Put
returns-in-Put c = rw c.in-Put.is (IfOk-weaker c.one-in-Put.result _ _
    (λ choices are a x may. the_one _ (Puts c.in-Put.slot c.in-Put.file) are c.found_at-in-Put.ensures x.1 (λ p. p.1) may) c.one-in-Put.ensures)

pub returns-in-Clear : goal.returns-in-Clear
returns-in-Clear c = rw c.in-Clear.is (IfOk-weaker c.one-in-Clear.result _ _
    (λ choices are a x may. the_one _ (Clears c.in-Clear.slot) are c.found_at-in-Clear.ensures x.1 (λ p. p.1) may) c.one-in-Clear.ensures)

pub returns-in-Take : goal.returns-in-Take
returns-in-Take c = rw c.in-Take.is (IfOk-weaker c.one-in-Take.result _ _
    (λ choices are a x may. the_one _ (Takes c.in-Take.slot) are c.found_at-in-Take.ensures x.1 (λ p. p.1) may) c.one-in-Take.ensures)

pub returns-in-Allocate : goal.returns-in-Allocate
returns-in-Allocate c = rw c.in-Allocate.is c.allocations.ensures
