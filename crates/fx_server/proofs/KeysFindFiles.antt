-- Files in use have numbers of their own, and so a key finds its file.
use Rattle.fx_server.proofs.{ℤ, pos, ◌≡◌, ◌⊎◌, inl, inr, ℕ, zero, suc, ◌+◌, ◌<◌, ◌++◌, List, [], ◌∷◌, map, length, Option, Some, None, Ok, refl, sym}
use Rattle.fx_server.proofs.{ap, subst, ◌∙◌, arith, Identity, AllowsAll, action_of, part_of_pass, state_after, IsInstalled, State, Look}
use Rattle.fx_server.proofs.{file_numbered, Event, File, LookedUp, Opening, start_of, PassView, Holding, Hold, opening_of, Key, PutEmpty, At}
use Rattle.fx_server.proofs.{opening_of_table, TriedPut, TriedSo, HasPutEmpty, LookedByKey, UsesIfTried, empty_code, tried_code, GetsAs, IsDone}
use Rattle.fx_server.proofs.{file_with, DrawsItsNumbers, HaveDrawnNumbers, KeepsItsNumbers, number_of_file, AKeyFindsItsFile, AreExportCalls}
use Rattle.fx_server.proofs.{FilesInUseHaveTheirNumbers, IsInUse, ReturnsKey, inserts, replaces_at, replaces, puts_empty, its_opening, its_pass}
use Rattle.fx_server.proofs.{its_start, CoreOutcome, DONE, TableWorker, eq-eqb, ne_eqb, dite, ℕ_discrete, dec_le, Grows, grows_then}
use Rattle.fx_server.proofs.{installed_earlier, installed_later, number_of_new, own_numbers, opened_draw, opened_pass}
use Rattle.fx_lasting.specs.declared.answers.PutEmpty.TheVariants.{Installed}
use Rattle.fx_server.proofs.EndsOfKeys.{installed_at, no_fault, no_refusal, no_refusal_at}
use Rattle.fx_server.proofs.ExportsNumbers.{Makes, call_grows, exports_keep, inserted, put_in_empty, renewed, replaced_at}

next_place : (place : ℕ) → 1 + place ≡ suc place
next_place place = omega arith

-- calls in a row
grows_by : (between : List TableWorker) (first last : TableWorker) → AreExportCalls first between last → Grows (its_pass first) (its_pass last)
grows_by [] first last is = record { since = []; own = ap (λ (w : TableWorker). (its_pass w).own) is; number = ap (λ (w : TableWorker). (its_pass w).number) is }
grows_by (next ∷ more) first last calls = grows_then (call_grows first next calls.0) (grows_by more next last calls.1)

keeps_by : (between : List TableWorker) (first last : TableWorker) → AreExportCalls first between last → KeepsItsNumbers first last
keeps_by [] first last is installing place some low d = subst (DrawsItsNumbers installing place) (sym is) d
keeps_by (next ∷ more) first last calls installing place some low d =
    keeps_by more next last calls.1 installing place some low (exports_keep first next calls.0 installing place some low d)

module _ (slots installing : ℕ) (opened : List TableWorker) (now : ℕ → TableWorker) (h : List Event) (use' : IsInUse slots installing opened now h) where
  its_number : (place : ℕ) → place < length opened → (its_pass (now place)).number ≡ suc place
  its_number place low = (grows_by (use'.calls place low).0 _ (now place) (use'.calls place low).1).number
      ∙ (opened_pass slots (length opened) installing opened use'.opens place (now place) low ∙ next_place place)

  -- the part of a worker's pass
  its_part : (place : ℕ) → place < length opened → part_of_pass (suc place) h ≡ (its_pass (now place)).own
  its_part place low = subst (λ (n : ℕ). part_of_pass n h ≡ (its_pass (now place)).own) (its_number place low) (use'.parts place low).own

  no_part : (pass : ℕ) → part_of_pass pass h ≡ [] → (draws : ℕ) × HaveDrawnNumbers installing pass draws (part_of_pass pass h)
  no_part pass none = grind arith

  each : (pass : ℕ) → (draws : ℕ) × HaveDrawnNumbers installing pass draws (part_of_pass pass h)
  each zero = no_part zero (use'.authors zero (inl refl))
  each (suc place) = dite (dec_le (suc place) (length opened))
      (λ low. let calls = use'.calls place low in
      let d = subst (λ (n : ℕ). DrawsItsNumbers installing n (now place)) (next_place place)
      (keeps_by calls.0 _ (now place) calls.1 installing (1 + place) use'.few (omega arith)
      (opened_draw slots (length opened) installing opened use'.opens place (now place) low)) in
      (d.draws, subst (HaveDrawnNumbers installing (suc place) d.draws) (sym (its_part place low)) d.files))
      (λ high. no_part (suc place) (use'.authors (suc place) (inr (omega (arith, high)))))

pub their_numbers : FilesInUseHaveTheirNumbers
their_numbers slots installing opened now h use' = own_numbers installing h use'.few (each slots installing opened now h use')

-- a look-up found the file
abbrev HasFound : List Event → File → Type 0
HasFound [] f = ⊥
HasFound (e ∷ h) f = HasFound h f ⊎ ((slot : ℕ) × (e.action ≡ Look slot (Some f)))

found_earlier : (h more : List Event) (f : File) → HasFound h f → HasFound (more ++ h) f
found_earlier h [] f it = it
found_earlier h (e ∷ more) f it = inl (found_earlier h more f it)

-- an event of a pass is one of the whole history
found_whole : (q : ℕ) (h : List Event) (f : File) → HasFound (part_of_pass q h) f → HasFound h f
found_whole q [] f it = it
found_whole q (e ∷ h) f it = dite (ℕ_discrete e.pass q)
    (λ same. elim (rw (eq-eqb e.pass q same) at it) [ inl was ↦ inl (found_whole q h f was) | inr is ↦ inr is ])
    (λ other. inl (found_whole q h f (rw (ne_eqb e.pass q other) at it)))

installed_whole : (q : ℕ) (h : List Event) (f : File) → IsInstalled (part_of_pass q h) f → IsInstalled h f
installed_whole q [] f it = it
installed_whole q (e ∷ h) f it = dite (ℕ_discrete e.pass q)
    (λ same. elim (rw (eq-eqb e.pass q same) at it) [ inl was ↦ inl (installed_whole q h f was) | inr is ↦ inr is ])
    (λ other. inl (installed_whole q h f (rw (ne_eqb e.pass q other) at it)))

-- a file that a look-up found was installed, if the table was opened empty
found_installed : (start : State) (h : List Event) (f : File) → ((s : ℕ) → start.at s ≡ None) → AllowsAll start (map action_of h) → HasFound h f → IsInstalled h f
found_installed start [] f empty may it = it
found_installed start (e ∷ h) f empty may (inl was) = inl (found_installed start h f empty may.0 was)
found_installed start (e ∷ h) f empty may (inr is) = grind (arith, state_after, installed_at)

-- a pass that looked a slot up has found the file that it holds
looked_found : (o : Opening) (v w : PassView) (slot : ℕ) (hold : Hold) (out : Option Identity) (f : File) → LookedUp o v slot (Ok hold) out w → w.doing ≡ Holding f hold → HasFound w.own f
looked_found o v w slot hold out f it holds = grind arith

-- the file that a call installed which returned this key
tried_makes : (w w' : TableWorker) (tag number slot : ℕ) (result : TriedPut) → tried_code result ≡ pos slot → UsesIfTried w result number w'
    → TriedSo (its_opening w) (its_pass w) (file_with tag w.numbers.next) result (its_pass w') → Makes w w' tag number
tried_makes w w' tag number slot (At at) is uses it = subst (Makes w w' tag) (sym uses.0) (inserted w w' tag at it)
tried_makes w w' tag number slot _ is uses it = absurd (cc is)

filled_makes : (w w' : TableWorker) (slot tag : ℕ) (result : PutEmpty) → IsDone (empty_code result)
    → HasPutEmpty (its_start w) w.pass slot (file_with tag w.numbers.kept) result w'.pass → Makes w w' tag w.numbers.kept
filled_makes w w' slot tag Installed done it = put_in_empty w w' slot tag it
filled_makes w w' slot tag _ done it = absurd (cc done.1)

key_makes : (w w' : TableWorker) (tag : ℕ) (key : Key) → ReturnsKey w tag key w' → Makes w w' tag key.number
key_makes w w' tag key (inserts answer number it is its) = subst (Makes w w' tag) its (elim it.allocated [
  | inl one ↦ tried_makes w w' tag number key.slot one.result (sym one.its_answer ∙ is) one.uses one.tries
  | inr refused ↦ absurd (no_refusal w answer refused.2 (key.slot, is))
])
key_makes w w' tag key (replaces_at answer out it is its) = elim it.placed [
  | inl one ↦ subst (Makes w w' tag) (sym one.uses.0 ∙ its) (replaced_at w w' key.slot tag answer out one)
  | inr refused ↦ absurd (no_refusal_at w key.slot answer refused.2 is)
]
key_makes w w' tag key (replaces old answer out it is its) = elim it.placed [
  | inl one ↦ subst (Makes w w' tag) (sym one.uses.0 ∙ its) (renewed w w' (record { slot = key.slot; number = old }) tag answer out one)
  | inr (inl kept) ↦ absurd (no_fault kept.why answer kept.its_answer is)
  | inr (inr refused) ↦ absurd (no_refusal w answer refused.2 is)
]
key_makes w w' tag key (puts_empty answer it is its) = subst (Makes w w' tag) its (elim it.placed [
  | inl one ↦ filled_makes w w' key.slot tag one.result (is.0, sym one.its_answer ∙ is.1) one.tries
  | inr (_, inl none) ↦ absurd (cc (sym none.0 ∙ is.1))
  | inr (_, inr refused) ↦ absurd (no_refusal w answer refused is)
])

-- the file that a look-up by key found, and its tag
record Got (u : TableWorker) (key : Key) (tag : ℕ) (u' : TableWorker) : Type 0 where
  hold : Hold
  freed : Option Identity
  released : Option Identity
  looked : LookedByKey (its_start u) (its_pass u) key (Ok hold) freed released (its_pass u')
  its_tag : (f : File) → (its_pass u').doing ≡ Holding f hold → tag ≡ f.identity.tag

got : (u u' : TableWorker) (key : Key) (answer : ℤ) (out : CoreOutcome) → GetsAs u key answer out u' → answer ≡ DONE → Got u key out.tag u'
got u u' key answer out it is = grind (arith, no_fault)

pub finds_its_file : AKeyFindsItsFile
finds_its_file slots installing opened now h w w' u u' tag key answer out use' made returns gets gets_as is =
    let m = key_makes w w' tag key returns in
    let it = got u u' key answer out gets_as is in
    let looked = it.looked in
    let f = looked.0 in
    let own = their_numbers slots installing opened now h use' in
    let start = start_of (opening_of_table use'.opens.table) in
    let empty : (s : ℕ) → start.at s ≡ None = λ s. ap (λ (o : Opening). (start_of o).at s) use'.opens.opening
    ∙ ap (λ (st : State). file_numbered (st.at s) s) use'.opens.empty in
    let saw : HasFound (its_pass u').own f = looked_found (opening_of (its_start u)) (its_pass u) (its_pass u') key.slot it.hold it.freed f looked.2.looked looked.2.holds in
    let more = grows_by gets.after.0 u' (now gets.place) gets.after.1 in
    let f_in : IsInstalled h f = found_installed start h f empty use'.legal.leads.0 (found_whole (suc gets.place) h f
    (subst (λ (l : List Event). HasFound l f) (sym (its_part slots installing opened now h use' gets.place gets.low ∙ more.own)) (found_earlier (its_pass u').own more.since f saw))) in
    let then = grows_by made.after.0 w' (now made.place) made.after.1 in
    let in_own : IsInstalled (its_pass w').own m.new = subst (λ (l : List Event). IsInstalled l m.new) (sym m.one.grows.own)
    (installed_later (its_pass w).own m.one.grows.since m.new m.one.there) in
    let g_in : IsInstalled h m.new = installed_whole (suc made.place) h m.new
    (subst (λ (l : List Event). IsInstalled l m.new) (sym (its_part slots installing opened now h use' made.place made.low ∙ then.own))
    (installed_earlier (its_pass w').own then.since m.new in_own)) in
    let its : number_of_file m.new ≡ key.number = number_of_new m.new tag key.number m.identity in
    let same : f ≡ m.new = own f m.new f_in g_in (λ none. looked.1.0 (sym looked.1.1 ∙ none)) (looked.1.1 ∙ sym its) in
    record {
      file = f;
      hold = it.hold;
      installed = record { since = m.one.grows.since; made = m.one.grows.own; there = subst (IsInstalled m.one.grows.since) (sym same) m.one.there };
      holds = looked.2.holds;
      its_tag = it.its_tag f looked.2.holds ∙ (ap (λ (z : File). z.identity.tag) same ∙ ap (λ (z : Identity). z.tag) m.identity);
    }
