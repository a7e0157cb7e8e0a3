-- The file at a slot after a history: the one that the last change of the slot left there.
use Rattle.fx_table.proofs.Words.{◌≡◌, ◌⊎◌, ℕ, List, [], ◌∷◌, map, sym, refl, ◌∙◌, subst, inl, inr, ⊎_elim, Option, Some, None, IsSome, Contains, ◌▷◌}
use Rattle.fx_table.proofs.Words.{File, Event, Action, State, changed_here, changed_else, ◌▷▷◌, Opening, start_of, state_at, action_of, ℕ_discrete}
use Rattle.fx_table.proofs.Words.{dite, same_shape, after, Look, Put, Clear, Take, Allocate, arith}
use Rattle.fx_table.proofs.SumLemmas.{contains_none, contains_head, contains_tail, contains_cases}
use Rattle.fx_table.specs.Finding.{LeavesAt, KeepsSlot, IsLegalAt, AllKeepSlot, LookUpFindsTheChange, LookUpFindsThePut, LookUpFindsTheRemoval}
use Rattle.fx_table.specs.Finding.{FullFollowsAnInstallation}

-- an action changes the slot or doesn't
changes : (slot : ℕ) (a : Action) → ((left : Option File) × LeavesAt slot left a) ⊎ KeepsSlot slot a
changes slot (Put s f replaced) = ⊎_elim (λ e. inl (Some f, (e, refl))) (λ other. inr other) (dite (ℕ_discrete s slot) (λ e. inl e) (λ other. inr other))
changes slot (Clear s found) = ⊎_elim (λ e. inl (None, (e, refl))) (λ other. inr other) (dite (ℕ_discrete s slot) (λ e. inl e) (λ other. inr other))
changes slot (Take s found) = ⊎_elim (λ e. inl (None, (e, refl))) (λ other. inr other) (dite (ℕ_discrete s slot) (λ e. inl e) (λ other. inr other))
changes slot (Allocate s f) = ⊎_elim (λ e. inl (Some f, (e, refl))) (λ other. inr other) (dite (ℕ_discrete s slot) (λ e. inl e) (λ other. inr other))
changes slot _ = inr tt

-- what a change leaves is at the slot
left_at : (slot : ℕ) (left : Option File) (a : Action) (st : State) → LeavesAt slot left a → (after st a).at slot ≡ left
left_at slot left a st l = grind (arith, changed_here)

-- every other action leaves the slot as it is
kept_at : (slot : ℕ) (a : Action) (st : State) → KeepsSlot slot a → (after st a).at slot ≡ st.at slot
kept_at slot a st l = grind (arith, changed_else)

kept_by : (slot : ℕ) (h : List Event) → AllKeepSlot slot h → (e : Event) → Contains h e → KeepsSlot slot e.action
kept_by slot [] all e c = absurd (contains_none e c)
kept_by slot (x ∷ h) all e c = ⊎_elim (λ same. subst (λ (z : Event). KeepsSlot slot z.action) (sym same) all.1) (λ inside. kept_by slot h all.0 e inside) (contains_cases x h e c)

module _ (o : Opening) (before : List Event) (change : Event) (slot : ℕ) (left : Option File) (leaves : LeavesAt slot left change.action) where
  -- after a history
  abbrev at_end : List Event → Option File
  at_end since = (state_at o (before ▷ change ▷▷ since)).at slot

  abbrev Later : List Event → Option File → Type 0
  Later since found = (later : Event) × Contains since later × LeavesAt slot found later.action

  last_change : (since : List Event) → (at_end since ≡ left) ⊎ Later since (at_end since)
  last_change [] = inl (left_at slot left change.action (state_at o before) leaves)
  last_change (e ∷ es) = ⊎_elim
      (λ (new : (now : Option File) × LeavesAt slot now e.action).
      inr (e, contains_head e es, subst (λ (z : Option File). LeavesAt slot z e.action) (sym (left_at slot new.0 e.action (state_at o (before ▷ change ▷▷ es)) new.1)) new.1))
      (λ (keeps : KeepsSlot slot e.action). let same : at_end (e ∷ es) ≡ at_end es = kept_at slot e.action (state_at o (before ▷ change ▷▷ es)) keeps in
      ⊎_elim (λ is. inl (same ∙ is))
      (λ (is : Later es (at_end es)). inr (is.0, contains_tail e es is.0 is.1, subst (λ (z : Option File). LeavesAt slot z is.0.action) (sym same) is.2))
      (last_change es))
      (changes slot e.action)

pub finds_the_change : LookUpFindsTheChange
finds_the_change o before since change look slot left found legal leaves is = grind (arith, last_change, last_change o before change slot left leaves since)

-- the same, if no action between changes the slot
pub finds_what_was_left : (o : Opening) (before since : List Event) (change look : Event) (slot : ℕ) (left found : Option File)
    → IsLegalAt o (before ▷ change ▷▷ since ▷ look) → LeavesAt slot left change.action → look.action ≡ Look slot found → AllKeepSlot slot since → found ≡ left
finds_what_was_left o before since change look slot left found legal leaves is keep =
    ⊎_elim (λ e. e) (λ later. absurd (grind (arith, later.0.action, later.2, (kept_by slot since keep later.0 later.1))))
    (finds_the_change o before since change look slot left found legal leaves is)

pub finds_the_put : LookUpFindsThePut
finds_the_put o before since put look slot new replaced found legal put_is is keep =
    finds_what_was_left o before since put look slot (Some new) found legal (subst (LeavesAt slot (Some new)) (sym put_is) (refl, refl)) is keep

pub finds_the_removal : LookUpFindsTheRemoval
finds_the_removal o before since removal look slot found legal leaves is keep = finds_what_was_left o before since removal look slot None found legal leaves is keep

none_is_some : IsSome {T = File} None → ⊥
none_is_some is = absurd (cc is)

some_of : (found : Option File) → IsSome found → (f : File) × (found ≡ Some f)
some_of found is = grind (arith, none_is_some)

pub full_follows : FullFollowsAnInstallation
full_follows o before since removal full slot legal inside in_range leaves is =
    let st = state_at o (before ▷ removal ▷▷ since) in
    let shape = same_shape (start_of o) (map action_of (before ▷ removal ▷▷ since)) in
    grind (arith, some_of, last_change o before removal slot None leaves since)
