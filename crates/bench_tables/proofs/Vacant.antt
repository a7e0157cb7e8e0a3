-- A table without files is settled.
use Rattle.std.proofs.Common.{◌≡◌, ℕ, refl, subst, sym}
use Rattle.fx_plain.specs.State.{State, IsSettled, vacant}

pub vacant_settled : (size : ℕ) {st : State} → st ≡ vacant size → IsSettled st
vacant_settled size is = subst IsSettled (sym is) (record { unheld = λ _. refl; closed = λ _. refl })
