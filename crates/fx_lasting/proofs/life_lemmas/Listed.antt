-- The files of a closed table, listed with their slots, and a table of one thread that has them.
use Rattle.fx_lasting.proofs.{◌≡◌, ℕ, ◌+◌, ◌<◌, ◌≤◌, List, [], ◌∷◌, ◌++◌, sym, refl, ap, ◌∙◌, arith, inl, Option, Some, None, Closed, State, Contents}
use Rattle.fx_lasting.proofs.{state_of, IsSettled, changed_at, numbered, some, get_elem?, set, range_with_len, map, length-map-range_with_len}
use Rattle.fx_lasting.proofs.{add-one, append-nil, get_or-eq_default, get_or-map-range_with_len, slot_at, node_at, moved_node, vacant}
use Rattle.fx_lasting.proofs.{identity_of, HasSameFiles, AreAtHome, AreComing, file_at, none_came, none_named, some_came, none_there}
use Rattle.fx_lasting.proofs.{file_put, Becomes, with_slot, files_at_slots}
use Rattle.fx_plain.specs.Contents.{file_at as file_in}
use Rattle.fx_plain.specs.declared.node.Node.{Node}
use Rattle.fx_plain.specs.declared.node.Node.TheVariants.{Gone}

-- one more slot's file
pub listed_next : (file : ℕ → Option Closed) (n : ℕ) → files_at_slots file (n + 1) ≡ files_at_slots file n ++ with_slot n (file n)
listed_next file n = ap (files_at_slots file) (add-one n)

-- the files of the slots so far are in the list, and those of the others in their places
module _ (size : ℕ) (place_at : ℕ → Option ℕ) where
  abbrev file : List (Option Closed) → ℕ → Option Closed
  file xs = file_at size place_at xs

  pub record AreListed (xs : List (Option Closed)) (done : ℕ) (now : List (Option Closed)) (files : List (ℕ × Closed)) : Type 0 where
    pub state : State
    pub coming : AreComing size place_at (vacant size) xs done now state
    pub listed : files ≡ files_at_slots (file_at size place_at xs) done

  pub none_listed : {xs : List (Option Closed)} {files : List (ℕ × Closed)} → AreAtHome size place_at xs → files ≡ [] → AreListed xs 0 xs files
  none_listed home none = record {
    state = vacant size;
    coming = none_came size place_at
        (record { vacant = λ slot. refl; settled = record { unheld = λ n. refl; closed = λ n. refl } }) home;
    listed = none;
  }

  module _ {xs : List (Option Closed)} {done : ℕ} {now : List (Option Closed)} {files : List (ℕ × Closed)} (so_far : AreListed xs done now files)
      (home : AreAtHome size place_at xs) (inside : done < size) where
    -- the slot has no file
    none_here : file xs done ≡ None → files ≡ files_at_slots (file xs) (done + 1)
    none_here none = so_far.listed ∙ (sym (append-nil (files_at_slots (file xs) done))
        ∙ (ap (λ (x : Option Closed). files_at_slots (file xs) done ++ with_slot done x) (sym none) ∙ sym (listed_next (file xs) done)))

    pub none_named_here : place_at done ≡ None → AreListed xs (done + 1) now files
    none_named_here none = let coming = none_named size place_at so_far.coming home inside none in record {
      state = so_far.state;
      coming = coming;
      listed = none_here (sym (coming.part.back done (inl (omega arith))) ∙ ap identity_of (so_far.coming.part.away done (omega arith) inside));
    }

    module _ {place : ℕ} {x : Option Closed} {new : List (Option Closed)} (named : place_at done ≡ Some place) (there : get_elem? now place ≡ some x)
        (written : new ≡ set now place None) where
      pub none_is_there : x ≡ None → AreListed xs (done + 1) new files
      none_is_there none = let coming = none_there size place_at so_far.coming home inside named there written none in record {
        state = so_far.state;
        coming = coming;
        listed = none_here (sym (coming.part.back done (inl (omega arith))) ∙ ap identity_of (so_far.coming.part.away done (omega arith) inside));
      }

      pub one_listed : {f : Closed} {files' : List (ℕ × Closed)} → x ≡ Some f → files' ≡ files ++ (done, f) ∷ [] → AreListed xs (done + 1) new files'
      one_listed {f} is pushed =
          let st : State = record so_far.state { at = changed_at so_far.state.at done (Some (numbered done f)) } in
          let put : Becomes so_far.state done (Some f) st = file_put so_far.coming.part.settled refl in
          let coming = some_came size place_at so_far.coming home inside named there written is put in
          let found : file xs done ≡ Some f = sym (coming.part.back done (inl (omega arith))) ∙ put.there in record {
            state = st;
            coming = coming;
            listed = pushed ∙ (ap (λ (l : List (ℕ × Closed)). l ++ (done, f) ∷ []) so_far.listed
                ∙ (ap (λ (y : Option Closed). files_at_slots (file xs) done ++ with_slot done y) (sym found) ∙ sym (listed_next (file xs) done)));
          }

-- a settled table of one thread that has the files of a state
module _ (st : State) (past : (slot : ℕ) → st.size ≤ slot → st.at slot ≡ None) where
  abbrev found : ℕ → Option Closed
  found slot = identity_of (st.at slot)

  abbrev slot_for : ℕ → Option Closed → Option ℕ
  slot_for slot None = None
  slot_for slot (Some f) = Some slot

  abbrev slots : List (Option ℕ)
  slots = map (λ slot. slot_for slot (found slot)) (range_with_len 0 st.size)

  abbrev nodes : List Node
  nodes = map (λ slot. moved_node (found slot) slot) (range_with_len 0 st.size)

  abbrev pub with_files : Contents
  with_files = record { slots = slots; range = st.range; nodes = nodes; holds = []; numbers = 0 }

  slot_is : (slot : ℕ) → slot < st.size → slot_at slots slot ≡ slot_for slot (found slot)
  slot_is slot l = get_or-map-range_with_len (λ s. slot_for s (found s)) 0 st.size slot slot None l (omega arith)

  node_is : (slot : ℕ) → slot < st.size → node_at nodes slot ≡ moved_node (found slot) slot
  node_is slot l = get_or-map-range_with_len (λ s. moved_node (found s) s) 0 st.size slot slot Gone l (omega arith)

  none_at : (slot : ℕ) → st.size ≤ slot → slot_at slots slot ≡ None
  none_at slot g = get_or-eq_default slots None (omega (arith, g, length-map-range_with_len (λ s. slot_for s (found s)) 0 st.size))

  gone_at : (number : ℕ) → st.size ≤ number → node_at nodes number ≡ Gone
  gone_at number g = get_or-eq_default nodes Gone (omega (arith, g, length-map-range_with_len (λ s. moved_node (found s) s) 0 st.size))

  placed : (slot : ℕ) (x : Option Closed) → node_at nodes slot ≡ moved_node x slot → identity_of (file_in nodes (slot_for slot x)) ≡ x
  placed slot x is = grind arith

  its_file : (slot : ℕ) → identity_of ((state_of with_files).at slot) ≡ found slot
  its_file slot = grind (arith, slot_is, placed, node_is, none_at)

  pub has_files : HasSameFiles st (state_of with_files)
  has_files = record { size = length-map-range_with_len (λ s. slot_for s (found s)) 0 st.size; range = refl; files = its_file }

  pub at_rest : IsSettled (state_of with_files)
  at_rest = record { unheld = λ n. get_or-eq_default [] 0 {n = n} (omega arith); closed = λ number. grind (arith, node_is, gone_at) }

  -- the files of both, listed
  pub same_list : files_at_slots found st.size ≡ files_at_slots (λ slot. identity_of ((state_of with_files).at slot)) (state_of with_files).size
  same_list = λ i. files_at_slots (λ slot. sym (its_file slot) i) (sym has_files.size i)
