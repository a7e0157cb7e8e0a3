use Rattle.fx_chain.proofs.Words.{◌≡◌, ◌↔◌, ℕ, ℤ, pos, negsuc, int_le, sym, ap, ◌∙◌, rules, refl, List, Some, IsTrue, to_z, of_z, w32, slice_get}
use Rattle.fx_chain.proofs.Words.{arith, InstallsAt, Updates, operation_of}
use Rattle.std.proofs.lemmas.Option.{slice_get_read, slice_get_past}
use Rattle.fx_chain.proofs.request.Request.installs_at.Goals as goal

-- the number at a position of an update's list
at_number : (off : ℕ) (list : List ℤ) (i : ℕ) (z : ℤ) → slice_get list i ≡ Some z → IsTrue (int_le (pos 0) z) ↔ InstallsAt (Updates off list) i
at_number off list i (pos n) is = (λ _. (n, is), λ _. search rules)
at_number off list i (negsuc n) is = (λ no. absurd (search rules), λ x. let bad : Some (negsuc n) ≡ Some (pos x.0) = sym is ∙ x.1 in absurd (cc))

pub returns-in-Some : goal.returns-in-Some
returns-in-Some c =
    let z : ℤ = c.in-Some.number.now in
    let list : List ℤ = c.in-Update.list.items in
    let i : ℕ = c.args.entry in
    let read : to_z w32 (of_z w32 z) ≡ z = search rules in
    let there : slice_get c.as_slice.result.now i ≡ Some z = slice_get_read c.as_slice.result.now _ i z refl c.in-Some.ensures.lookup.3.0 c.in-Some.ensures.lookup.1 in
    let same : slice_get list i ≡ Some z = ap (λ (l : List ℤ). slice_get l i) (sym c.as_slice.ensures.value) ∙ there in
    let o : IsTrue (int_le (pos 0) z) ↔ InstallsAt (operation_of c.args.self.now.op) i = rw (c.in-Update.is) (at_number c.in-Update.off list i z same) in
    rw (read) o

pub returns-in-None : goal.returns-in-None
returns-in-None c = grind (arith, slice_get_past)
