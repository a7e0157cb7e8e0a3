-- The answers at the table are ones that a request may have; the entry of a name is the one found.
use Rattle.fx_chain.proofs.Words.{◌≡◌, ℕ, zero, suc, ◌+◌, Bool, true, false, List, [], ◌∷◌, length, refl, sym, ap, ◌∙◌, arith, Option, Some, None, At}
use Rattle.fx_chain.proofs.Words.{cases_Bool, if◌then◌else◌, ◌||◌, pos, is_some, FileEntry, Place, Operation, Opens, Reads, Closes, Updates, has_name}
use Rattle.fx_chain.proofs.Words.{IsCatalogue, name_at, bytes_at, IsOpened, answer_at_table, entry_named, opened_by, may_answer, Free, Full, Any}
use Rattle.fx_chain.proofs.Words.{Slot, bytes_eq-Decides, IfSome}
use Rattle.fx_chain.specs.declared.intent.Finding.{Finding}
use Rattle.std.proofs.lemmas.Bool.Decides.{Decides-int_eq}
use Rattle.std.specs.Str.{bytes_eq}

or_left : (a b : Bool) → a ≡ true → (a || b) ≡ true
or_left a b is = grind (arith, cases_Bool)

module _ (catalogue : List FileEntry) (place : Place) where
  pub table_may_answer : (operation : Operation) (found : Option Finding) → may_answer operation (answer_at_table catalogue place operation found) ≡ true
  table_may_answer operation found = grind (arith, or_left)

-- the place of the entry with a name is the one that is found
entry_found : (catalogue : List FileEntry) (name : List ℕ) (at entry : ℕ) → name_at catalogue entry ≡ Some name
    → ((other : ℕ) → name_at catalogue other ≡ Some name → other ≡ entry) → entry_named name at catalogue ≡ Some (at + entry)
entry_found [] name at entry is only = absurd (cc)
entry_found (file ∷ catalogue) name at entry is only = by_name (entry_found catalogue name (at + 1)) (bytes_eq file.name name) refl entry is only
  where
    by_name : ((entry : ℕ) → name_at catalogue entry ≡ Some name
        → ((other : ℕ) → name_at catalogue other ≡ Some name → other ≡ entry) → entry_named name (at + 1) catalogue ≡ Some (at + 1 + entry))
        → (same : Bool) → bytes_eq file.name name ≡ same → (entry : ℕ) → name_at (file ∷ catalogue) entry ≡ Some name
        → ((other : ℕ) → name_at (file ∷ catalogue) other ≡ Some name → other ≡ entry)
        → (if same then Some at else entry_named name (at + 1) catalogue) ≡ Some (at + entry)
    by_name later true same entry is only =
        let first : 0 ≡ entry = only 0 (ap Some ((bytes_eq-Decides file.name name).0 same)) in
        let here : at ≡ at + entry = omega arith in ap Some here
    by_name later false same zero is only =
        let own : file.name ≡ name = cc in let both : false ≡ true = sym same ∙ (bytes_eq-Decides file.name name).1 own in absurd (cc)
    by_name later false same (suc entry) is only =
        let count : at + 1 + entry ≡ at + suc entry = omega arith in
        later entry is (λ other named. let next = only (suc other) named in omega (arith, next)) ∙ ap Some count

pub entry_opened : (catalogue : List FileEntry) (operation : Operation) (entry : ℕ) → IsCatalogue catalogue → IsOpened catalogue operation entry
    → opened_by catalogue operation ≡ Some entry
entry_opened catalogue operation entry is opened = grind (arith, entry_found)

none_named : (catalogue : List FileEntry) (name : List ℕ) (at : ℕ) → has_name name catalogue ≡ false → entry_named name at catalogue ≡ None
none_named [] name at absent = refl
none_named (file ∷ catalogue) name at absent = grind (arith, cases_Bool, none_named catalogue name (at + 1))

-- what is found by a name is the entry of the name
pub found_named : (catalogue : List FileEntry) (name : List ℕ) (found : Option ℕ) → IsCatalogue catalogue
    → IfSome found (λ entry. name_at catalogue entry ≡ Some name) → is_some found ≡ has_name name catalogue → found ≡ entry_named name 0 catalogue
found_named catalogue name found is named there = grind (arith, none_named, entry_found)
