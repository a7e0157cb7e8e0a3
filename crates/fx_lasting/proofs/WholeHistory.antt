-- One history has what all passes did, and each removed file that is open has a user.
use Rattle.fx_lasting.proofs.{its_pass, Relieving, StillNames, ◌≡◌, ℕ, suc, ◌+◌, ◌<◌, ◌≤◌, List, [], ◌∷◌, length, sym, refl, ap, ◌∙◌, subst, arith}
use Rattle.fx_lasting.proofs.{Some, None, some, get_elem?, ⊎_elim, dite, dec_le, Bool, true, false, at_index, found_sum, File, Agrees, WorkAgrees}
use Rattle.fx_lasting.proofs.{HoldAgrees, HoldsAt, OwnerAgrees, Shared, Start, View, Work, Phase, Guarded, Yielding, Retiring, seated, leaving}
use Rattle.fx_lasting.proofs.{retired, file_in, removed_in, file_if_numbered, eq-eqb, taken_of, taking, owed, sum_by, bit_else, nodes_of}
use Rattle.fx_lasting.proofs.{state_after_all, state_at_start, node_of_number, ℕ_discrete, named_same, opening_is_start, numbered_anew, PassView}
use Rattle.fx_lasting.proofs.{find_pass, alone_cases, owed_found, same_shape, NodeIn}
use Rattle.fx_plain.proofs.Cells.{named}
use Rattle.fx_plain.proofs.LawHolds.{tally, tally_start, tally_all, placed_one, closed_at_most_once}
use Rattle.fx_plain.specs.Laws.{IsStart, closes_of}
use Rattle.fx_lasting.proofs.hold_lemmas.Holds.{holds_at}
use Rattle.fx_lasting.specs.WholeHistory.{IsPassAt, IsPartOf, IsOfAllPasses, Uses, HasUser}

-- the passes begin in a state from which the laws of histories speak
start_is : (k : Start) → IsStart (state_at_start k)
start_is k = grind (arith, opening_is_start, numbered_anew)

-- the file of a phase, if it has the number
found_file : (number : ℕ) (g f : File) → file_if_numbered number g ≡ Some f → (g ≡ f) × (f.number ≡ number)
found_file number g f is = grind arith

module _ (k : Start) (s : Shared) (r : Agrees k s) where
  parts : (seat : ℕ) (pass : PassView) → IsPassAt s seat pass → IsPartOf pass r.history
  parts seat pass h3 = grind (arith, its_pass)

  once : (number : ℕ) → length (closes_of number r.history) ≤ 1
  once number = closed_at_most_once (state_at_start k) r.history number (start_is k) r.life.legal.leads.0

  has_number : (f : File) → file_if_numbered f.number f ≡ Some f
  has_number f = rw (eq-eqb f.number f.number refl) refl

  removed_there : (n : ℕ) (f : File) (ph : Phase) → r.phase n ≡ ph → r.node_of f.number ≡ n → removed_in f.number ph ≡ Some f
      → 1 ≤ tally f.number (state_after_all k r.history)
  removed_there n f ph h4 on is = grind arith

  -- a file that is open counts in the state that the history leads to
  is_there : (n : ℕ) (f : File) (ph : Phase) → r.phase n ≡ ph → NodeIn r n ph → file_in ph ≡ Some f
      → 1 ≤ tally f.number (state_after_all k r.history)
  is_there n f (seated slot g) at o is = let same : g ≡ f = cc is in
      let z = (same_shape k r.history).0 in
      let low : slot < (state_after_all k r.history).size = let i = o.inside in omega arith in
      let a = placed_one f.number (state_after_all k r.history).at slot (state_after_all k r.history).size low in
      let b = ap (named f.number) (o.there ∙ ap (λ (x : File). Some x) same) ∙ named_same f f.number refl in omega arith
  is_there n f (leaving seat t rd m g) at o is = removed_there n f (leaving seat t rd m g) at (let same : g ≡ f = cc is in rw (← same) o.file.its_node)
      (let same : g ≡ f = cc is in rw same (has_number f))
  is_there n f (retired g) at o is = removed_there n f (retired g) at (let same : g ≡ f = cc is in rw (← same) o.file.its_node)
      (let same : g ≡ f = cc is in rw same (has_number f))
  is_there n f _ at o is = absurd (cc is)

  -- so no file of its number was closed
  unclosed : (n : ℕ) (f : File) → HoldsAt k r.phase f n → closes_of f.number r.history ≡ []
  unclosed n f its = let start = tally_start (state_at_start k) f.number (start_is k) in
      let all = tally_all (state_at_start k) r.history f.number start r.life.legal.leads.0 in
      let now = is_there n f (r.phase n) refl (r.nodes.each n its.0) its.1 in none (closes_of f.number r.history) (omega arith)
    where
      none : (l : List File) → length l ≡ 0 → l ≡ []
      none [] is = refl
      none (g ∷ l) is = absurd (omega arith)

  pub is_of_all_passes : IsOfAllPasses k s r
  is_of_all_passes = grind (arith, start_is, parts, once, unclosed, holds_at)

  -- who uses a node that isn't free
  module _ (n : ℕ) (f : File) (file : file_in (r.phase n) ≡ Some f) where
    same_file : (g : File) → HoldsAt k r.phase g n → g ≡ f
    same_file g at = cc (sym at.1 ∙ file)

    takes : (seat : ℕ) (v : View) → get_elem? s.views seat ≡ some v → 1 ≤ taken_of n v → Uses f n v.work
    takes seat v there some_taken = grind (arith, taking, same_file, bit_else)

    owes : (seat : ℕ) (w : Work) (word debt : ℕ) → debt ≡ n + 1 → HoldAgrees word debt w → WorkAgrees k r.phase seat w → Uses f n w
    owes seat (Guarded g m) word debt is h at = ⊎_elim (λ clean. let a = clean.1 in absurd (omega arith))
        (λ full. let same : m ≡ n = (let a = full.1 in omega arith) in same_file g (rw same at at)) h
    owes seat (Relieving g m own w) word debt is h at = ⊎_elim (λ clean. let a = clean.1 in absurd (omega arith))
        (λ full. let same : m ≡ n = (let a = full.1 in omega arith) in same_file g (rw same at at.0)) h
    owes seat (Retiring g m t rd e) word debt is h at = still rd.guarded h
      where
        still : (b : Bool) → StillNames b word debt m → g ≡ f
        still true names = ⊎_elim (λ clean. let a = clean.1 in absurd (omega arith))
            (λ full. let same : m ≡ n = (let a = full.1 in omega arith) in let its : HoldsAt k r.phase g m = (at.0, ap file_in at.1) in
            same_file g (rw same at its)) names
        still false unnamed = let a = unnamed.1 in absurd (omega arith)
    owes seat (Yielding g m) word debt is h at = let same : m ≡ n = (let a = h.1 in omega arith) in same_file g (rw same at at)
    owes seat _ word debt is h at = grind arith

    abbrev HasOne : Type 0
    HasOne = (seat : ℕ) × (v : View) × (get_elem? s.views seat ≡ some v) × Uses f n v.work

    somebody : 0 < sum_by (taken_of n) s.views + owed r.debt k.passes n → HasOne
    somebody more = dite (ℕ_discrete (sum_by (taken_of n) s.views) 0)
        (λ none. let z = owed_found r.debt k.passes n (omega (arith, more, none)) in let y = find_pass r.life z.1 z.2 in
        (y.0, y.1, y.3, owes y.0 y.1.work _ _ (ap r.debt y.5 ∙ z.3) ((r.holds.views y.0 y.1 y.3).logs y.2 y.4).hold (r.holds.views y.0 y.1 y.3).work))
        (λ taken. let z = found_sum (taken_of n) s.views (omega (arith, taken)) in
        let there = at_index s.views z.1.0 z.0 z.1.1 (sym z.1.2) in (z.1.0, z.0, there, takes z.1.0 z.0 there z.2))

  -- the user of a removed file
  user_of : (number n : ℕ) (f : File) (ph : Phase) → r.phase n ≡ ph → NodeIn r n ph → OwnerAgrees s.views n ph → removed_in number ph ≡ Some f
      → (f.number ≡ number) × ((seat : ℕ) × (v : View) × (get_elem? s.views seat ≡ some v) × Uses f n v.work)
  user_of number n f (leaving seat t rd m g) at o who is = let e = found_file number g f is in
      (e.1, (seat, who.0, who.1, ⊎_elim (λ its. subst (Uses f n) (sym its) e.0) (λ z. absurd (cc z.3)) (alone_cases who.0.work who.2)))
  user_of number n f (retired g) at o who is = let e = found_file number g f is in
      (e.1, somebody n f (ap file_in at ∙ ap (λ (x : File). Some x) e.0) o.somebody)
  user_of number n f _ at o who is = absurd (cc is)

  pub user_is : (number : ℕ) (f : File) → (state_after_all k r.history).removed number ≡ Some f → HasUser k s f
  user_is number f is = let on = r.node_of number in let now : removed_in number (r.phase on) ≡ Some f = sym (r.nodes.removed number) ∙ is in
      dite (dec_le (suc on) (nodes_of k))
      (λ low. let u = user_of number on f (r.phase on) refl (r.nodes.each on (omega (arith, low))) (r.nodes.owners on (omega (arith, low))) now in
      let node : on ≡ node_of_number k f.number = r.numbering number ∙ ap (node_of_number k) (sym u.0) in
      (u.1.0, u.1.1, u.1.2, subst (λ (m : ℕ). Uses f m u.1.1.work) node u.1.3))
      (λ high. let e = ap (removed_in number) (r.nodes.unborn on (omega (arith, high))) in let bad : None ≡ Some f = sym e ∙ now in absurd (cc bad))
