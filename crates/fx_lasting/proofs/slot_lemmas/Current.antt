-- The check whether a slot has the file that a pass holds: its answer, and later changes there.
use Rattle.fx_lasting.proofs.{◌≡◌, ◌⊎◌, ℕ, ◌+◌, ◌++◌, List, [], ◌∷◌, sym, refl, ap, ◌∙◌, subst, inl, inr, ⊎_elim, arith, Option, Some, None, Result}
use Rattle.fx_lasting.proofs.{File, Event, Action, changed_here, changed_else, full_name_in, SaysIf, Miss, Opening, ◌▷◌, ◌▷▷◌, dite, ℕ_discrete}
use Rattle.fx_lasting.proofs.{contains_head, append_assoc, IsTrue, ◌↔◌, contains_tail, At, Hold, Holding, IsPassOf, LastingPass, Sat, Sees, Start}
use Rattle.fx_lasting.proofs.{TableId, opening_of, pass_in, pass_of, slot_of, state_after_all, view_of, holds_alone, is_ok, state_at}
use Rattle.fx_plain.specs.State.{State}
use Rattle.fx_plain.specs.Step.{after}
use Rattle.fx_plain.specs.declared.event.Action.TheVariants.{Look, Put, Clear, Take, Allocate}
use Rattle.fx_table.specs.Finding.{LeavesAt}
use Rattle.fx_lasting.specs.slots.Current.{HoldsNode, LaterLeft, CurrentFileFollowsTheChange, OldFileWasReplaced}

-- a pass holds one file at a time
held_once : {f g : File} {x y : Hold} → Holding f x ≡ Holding g y → x ≡ y
held_once is = cc is

-- a pass that has seen a slot's word knows whether its file is there
pub current_so : {id : TableId} {k : Start} {p : LastingPass} → IsPassOf id k p → {node slot : ℕ} → HoldsNode (view_of p) node
    → {st : At} {found : ℕ} {m' : Sat} → slot_of st.word ≡ slot → Sees st p.seat.me found m' → (r : Result ℕ Miss) → SaysIf found node r
    → (f : File) (hold : Hold) → (view_of p).doing ≡ Holding f hold
    → IsTrue (is_ok r) ↔ ((state_at (opening_of k) (pass_of m'.0).front).at slot ≡ Some f)
current_so {k = k} {p = p} fits {node} {slot} holds {st} {found} {m'} here saw r says f hold doing =
    let one : hold.node ≡ node = ap (λ (h : Hold). h.node) (held_once (sym doing ∙ holds.2)) ∙ holds.3 in
    let tells = saw.current f hold.node (holds_alone fits doing) in
    let name : IsTrue (is_ok r) ↔ (full_name_in found ≡ node + 1) = grind arith in
    let at : (state_after_all p.seat.me.0.start (pass_in m').front).at (slot_of st.word) ≡ (state_after_all k (pass_in m').front).at slot =
    λ i. (state_after_all (fits.seated.at.pass.0 i) (pass_in m').front).at (here i) in grind (arith, one, tells, name, at)

-- what a change leaves is at the slot
left_at : (slot : ℕ) (left : Option File) (a : Action) (st : State) → LeavesAt slot left a → (after st a).at slot ≡ left
left_at slot left a st leaves = grind (arith, changed_here)

-- an action leaves the slot as it was, or is a change of it
abbrev Stays : ℕ → Action → State → Type 0
Stays slot a st = (after st a).at slot ≡ st.at slot

changes : (slot : ℕ) (a : Action) (st : State) → ((left : Option File) × LeavesAt slot left a) ⊎ Stays slot a st
changes slot (Put s f found) st = dite (ℕ_discrete s slot) (λ e. inl (Some f, (e, refl))) (λ other. inr (changed_else st.at s (Some f) slot (λ e. other (sym e))))
changes slot (Allocate s f) st = dite (ℕ_discrete s slot) (λ e. inl (Some f, (e, refl))) (λ other. inr (changed_else st.at s (Some f) slot (λ e. other (sym e))))
changes slot (Clear s found) st = dite (ℕ_discrete s slot) (λ e. inl (None, (e, refl))) (λ other. inr (changed_else st.at s None slot (λ e. other (sym e))))
changes slot (Take s found) st = dite (ℕ_discrete s slot) (λ e. inl (None, (e, refl))) (λ other. inr (changed_else st.at s None slot (λ e. other (sym e))))
changes slot (Look s None) st = inr refl
changes slot (Look s (Some f)) st = inr refl
changes slot _ st = inr refl

module _ (o : Opening) (slot : ℕ) (h : List Event) where
  abbrev at_end : List Event → Option File
  at_end more = (state_at o (h ▷▷ more)).at slot

  -- the slot is as it was, or as its last change left it
  last_change : (more : List Event) → (at_end more ≡ at_end []) ⊎ LaterLeft more slot (at_end more)
  last_change [] = inl refl
  last_change (e ∷ es) = ⊎_elim
      (λ (new : (now : Option File) × LeavesAt slot now e.action).
      inr (e, contains_head e es, subst (λ (z : Option File). LeavesAt slot z e.action) (sym (left_at slot new.0 e.action (state_at o (h ▷▷ es)) new.1)) new.1))
      (λ (same : Stays slot e.action (state_at o (h ▷▷ es))). ⊎_elim (λ is. inl (same ∙ is))
      (λ (is : LaterLeft es slot (at_end es)). inr (is.0, contains_tail e es is.0 is.1, subst (λ (z : Option File). LeavesAt slot z is.0.action) (sym same) is.2))
      (last_change es))
      (changes slot e.action (state_at o (h ▷▷ es)))

  -- the history of a pass, once it has seen more
  pub goes_on : (front since more w : List Event) → front ≡ h ▷▷ since → w ≡ front ▷▷ more → w ≡ h ▷▷ (more ++ since)
  goes_on front since more w is then = then ∙ (ap (λ (z : List Event). z ▷▷ more) is ∙ sym (append_assoc more since h))

  pub is_left : (more w : List Event) (f : File) → w ≡ h ▷▷ more → (state_at o w).at slot ≡ Some f → (at_end [] ≡ Some f) ⊎ LaterLeft more slot (Some f)
  is_left more w f is there = grind (arith, last_change)

  pub is_gone : (more w : List Event) (f : File) → w ≡ h ▷▷ more → ((state_at o w).at slot ≡ Some f → ⊥) → at_end [] ≡ Some f → (left : Option File) × LaterLeft more slot left
  is_gone more w f is gone was = ⊎_elim (λ same. absurd (gone (ap (λ (z : List Event). (state_at o z).at slot) is ∙ (same ∙ was)))) (λ later. (at_end more, later))
      (last_change more)

pub current_follows : CurrentFileFollowsTheChange
current_follows o v w slot before since change left f hold leaves seen holds tells =
    let h = before ▷ change in
    let seen' = tells.adds.seen in
    let more = seen'.0 ++ since in
    let is = goes_on o slot h v.front since seen'.0 w.front seen seen'.1 in (
      more,
      is,
      ⊎_elim (λ same. inl (sym (left_at slot left change.action (state_at o before) leaves) ∙ same)) (λ later. inr later)
          (is_left o slot h more w.front f is ((tells.exact f hold holds).0 refl)),
    )

pub old_was_replaced : OldFileWasReplaced
old_was_replaced o v w slot before since f hold there seen holds tells =
    let seen' = tells.adds.seen in
    let more = seen'.0 ++ since in
    let is = goes_on o slot before v.front since seen'.0 w.front seen seen'.1 in
    (more, is, is_gone o slot before more w.front f is (λ at. absurd (cc ((tells.exact f hold holds).1 at))) there)
