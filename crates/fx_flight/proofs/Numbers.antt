-- The calls of a log: no two have the same number.
use Rattle.fx_flight.proofs.Words.{◌≡◌, ℕ, ◌+◌, ◌<◌, ◌≤◌, List, [], ◌∷◌, ◌++◌, refl, sym, ◌∙◌, arith, Option, Some, None, ⊎_elim, Contains, Called}
use Rattle.fx_flight.proofs.Words.{length, length-append, Contains-append_right, contains_cases, contains_head, contains_none, Happening, LookCalled}
use Rattle.fx_flight.proofs.Words.{event_fault, fault_of_log, or_in_rest, progress_after, IsCallOf, length-set}
use Rattle.fx_flight.specs.declared.fault.EventFault.{EventFault}
use Rattle.fx_flight.specs.declared.fault.LogFault.{LogFault}
use Rattle.fx_flight.specs.declared.fault.CallProgress.{CallProgress}

no_fault : (at : ℕ) (fault : Option EventFault) (later : Option LogFault) → or_in_rest at fault later ≡ None → (fault ≡ None) × (later ≡ None)
no_fault at None later is = (refl, is)
no_fault at (Some fault) later is = absurd (cc)

grows : (calls : List CallProgress) (e : Happening) → length calls ≤ length (progress_after calls e)
grows calls (Called id requests) = omega (arith, length-append {A = CallProgress})
grows calls (LookCalled id slot) = omega (arith, length-append {A = CallProgress})
grows calls e = omega (arith, length-set {A = CallProgress})

call_grows : (calls : List CallProgress) (e : Happening) (id : ℕ) → IsCallOf id e → length (progress_after calls e) ≡ length calls + 1
call_grows calls (Called other requests) id is = length-append calls _
call_grows calls (LookCalled other slot) id is = length-append calls _
call_grows calls e id is = absurd is

-- a call's number is that of the calls before it and 1 more
number_of : (calls : List CallProgress) (e : Happening) (id : ℕ) → event_fault calls e ≡ None → IsCallOf id e → id ≡ length calls + 1
number_of calls e id fits is = grind arith

module _ (id : ℕ) where
  later_number : (at : ℕ) (calls : List CallProgress) (log : List Happening) (e : Happening) → fault_of_log at calls log ≡ None → Contains log e
      → IsCallOf id e → length calls < id
  later_number at calls [] e fits there is = absurd (contains_none e there)
  later_number at calls (d ∷ log) e fits there is =
      let parts = no_fault at (event_fault calls d) (fault_of_log (at + 1) (progress_after calls d) log) fits in
      ⊎_elim (λ same. let own : id ≡ length calls + 1 = number_of calls d id parts.0 (rw same at is) in omega arith)
      (λ tail. let more : length (progress_after calls d) < id = later_number (at + 1) (progress_after calls d) log e parts.1 tail is in
      let long = grows calls d in omega arith) (contains_cases d log e there)

  -- a call of the first part of a log, and the next event, which calls by the same number
  pub new_number : (at : ℕ) (calls : List CallProgress) (front rest : List Happening) (call e : Happening)
      → fault_of_log at calls (front ++ call ∷ rest) ≡ None → Contains front e → IsCallOf id e → IsCallOf id call → ⊥
  new_number at calls [] rest call e fits there is other = contains_none e there
  new_number at calls (d ∷ front) rest call e fits there is other =
      let parts = no_fault at (event_fault calls d) (fault_of_log (at + 1) (progress_after calls d) (front ++ call ∷ rest)) fits in
      ⊎_elim (λ same. let so : IsCallOf id d = rw same at is in
      let own : id ≡ length calls + 1 = number_of calls d id parts.0 so in
      let long = call_grows calls d id so in
      let more : length (progress_after calls d) < id = later_number (at + 1) (progress_after calls d) (front ++ call ∷ rest) call parts.1
      (Contains-append_right front (call ∷ rest) call (contains_head call rest)) other in
      omega arith)
      (λ tail. new_number (at + 1) (progress_after calls d) front rest call e parts.1 tail is other) (contains_cases d front e there)

  -- two calls with the same number are one
  pub one_call : (at : ℕ) (calls : List CallProgress) (log : List Happening) (e d : Happening) → fault_of_log at calls log ≡ None → Contains log e
      → Contains log d → IsCallOf id e → IsCallOf id d → e ≡ d
  one_call at calls [] e d fits one other is so = absurd (contains_none e one)
  one_call at calls (h ∷ log) e d fits one other is so =
      let parts = no_fault at (event_fault calls h) (fault_of_log (at + 1) (progress_after calls h) log) fits in
      let apart : (x y : Happening) → x ≡ h → Contains log y → IsCallOf id x → IsCallOf id y → ⊥ = λ x y same tail first second.
      let call : IsCallOf id h = rw same at first in
      let own : id ≡ length calls + 1 = number_of calls h id parts.0 call in
      let long = call_grows calls h id call in
      let more : length (progress_after calls h) < id = later_number (at + 1) (progress_after calls h) log y parts.1 tail second in
      omega arith in
      ⊎_elim (λ same. ⊎_elim (λ too. same ∙ sym too) (λ tail. absurd (apart e d same tail is so)) (contains_cases h log d other))
      (λ tail. ⊎_elim (λ too. absurd (apart d e too tail so is))
      (λ also. one_call (at + 1) (progress_after calls h) log e d parts.1 tail also is so) (contains_cases h log d other))
      (contains_cases h log e one)
