-- The search of a pass's stock.
use Rattle.fx_lasting.proofs.{◌≡◌, ◌≢◌, ℕ, ◌+◌, ◌<◌, ◌≤◌, ◌⊎◌, inl, inr, sym, refl, ap, ◌∙◌, subst, arith, [], dite, ℕ_discrete, dec_le}
use Rattle.fx_lasting.proofs.{ne_eqb, next_of, Start, Sat, List, HasNoFile, Searching, Runs, Seeks, word_of, IsAtWork, step, none, IsInStock, some}
use Rattle.fx_lasting.proofs.{get_elem?, some-injective, stands_at, length, pass_in, does_then, runs_goes, runs_within, still_at_work}

-- The search began at the entry `start`, has read `count` entries, and is at this one; another one
-- isn't among those that it has read
abbrev pub IsAhead : ℕ → ℕ → ℕ → ℕ → ℕ → Type 0
IsAhead start len count entry e = ((entry ≡ start + count) × ((e < start) ⊎ (entry ≤ e))) ⊎ ((entry + len ≡ start + count) × (e < start) × (entry ≤ e))

-- a search of the stock so far: some node ahead is free
pub record Sought (stock : List ℕ) (len start count entry : ℕ) (m m' : Sat) : Type 0 where
  pub inside : entry < len
  pub before : count ≡ 0 → (entry ≡ start) × (m' ≡ m)
  pub free : 0 < count → (n : ℕ) × (e : ℕ) × (get_elem? stock e ≡ some n) × IsAhead start len count entry e
      × Runs m [] (Searching n) m.0.glance m.0.change count m'

-- the entry after one of a stock
not_yet : (len entry : ℕ) → entry + 1 ≢ len → next_of len entry ≡ entry + 1
not_yet len entry is = rw (ne_eqb (entry + 1) len is) refl

-- the entry after one whose node is in use
module _ {len start count entry e : ℕ} (high : start < len) (entry_high : entry < len) (e_high : e < len) (other : e ≢ entry) (more : count < len) where
  pub ahead_next : IsAhead start len count entry e → IsAhead start len (count + 1) (next_of len entry) e
  ahead_next a = grind (arith, not_yet)

-- the seat of a pass that searches
module _ {k : Start} {p len start count entry : ℕ} {stock : List ℕ} {m m' : Sat} (at : IsAtWork k p m) (idle : HasNoFile m.0.work)
    (its : stock ≡ (pass_in m).stock) (so_far : Sought stock len start count entry m m') where
  pub sought_at : IsAtWork k p m'
  sought_at = grind (arith, still_at_work)

  pub sought_work : HasNoFile m'.0.work
  sought_work = grind arith

  pub sought_stock : (pass_in m').stock ≡ stock
  sought_stock = grind arith

  -- after one more load, of the word of this node
  module _ {node i slots found : ℕ} {m'' : Sat} (at_entry : get_elem? stock entry ≡ some node) (place : i ≡ word_of k node)
      (did : Seeks (step slots i 0 0 none) m' found m'') where
    same_place : i ≡ word_of m'.0.start node
    same_place = place ∙ ap (λ (z : Start). word_of z node) (sym sought_at.pass.0)

    its_stock : IsInStock stock did.node
    its_stock = subst (λ (z : List ℕ). IsInStock z did.node) sought_stock did.stock

    runs_on : {n : ℕ} → did.node ≡ n → Runs m [] (Searching n) m.0.glance m.0.change (count + 1) m''
    runs_on {n} is = subst (λ (z : ℕ). Runs m [] (Searching z) m.0.glance m.0.change (count + 1) m'') is
        (dite (ℕ_discrete count 0)
        (λ none_yet. let e : 1 ≤ count + 1 = omega arith in
        runs_within e (subst (λ (z : Sat). Runs z [] (Searching did.node) z.0.glance z.0.change 1 m'') (so_far.before none_yet).1 (runs_goes did.goes)))
        (λ some. does_then (so_far.free (omega (arith, some))).4 (runs_goes did.goes)))

    -- this one is free
    pub sought_here : found ≡ 0 → Runs m [] (Searching node) m.0.glance m.0.change (count + 1) m''
    sought_here is = let same = did.here is in runs_on (omega (arith, same, same_place))

    -- another one is
    pub sought_more : found ≢ 0 → len ≡ length stock → start < len → count < len → Sought stock len start (count + 1) (next_of len entry) m m''
    sought_more not_so long begins more =
        let other : did.node ≢ node = λ same. did.other not_so (same_place ∙ ap (λ (z : ℕ). word_of m'.0.start z) (sym same)) in
        let so : (e : ℕ) × (get_elem? stock e ≡ some did.node) × IsAhead start len count entry e = dite (ℕ_discrete count 0)
        (λ none_yet. (
          its_stock.0,
          its_stock.1,
          inl (
            omega (arith, none_yet, (so_far.before none_yet).0),
            dite (dec_le start its_stock.0)
                (λ l. inr (omega (arith, l, (so_far.before none_yet).0))) (λ g. inl (omega (arith, g))),
          ),
        ))
        (λ some_read. let f = so_far.free (omega (arith, some_read)) in (f.1, f.2 ∙ ap some (sym (did.stays f.0 f.4.work not_so)), f.3)) in
        let apart : so.0 ≢ entry = λ same. other (some-injective did.node node (sym so.1 ∙ (ap (get_elem? stock) same ∙ at_entry))) in
        let few : so.0 < len = omega (arith, long, (stands_at stock so.0 did.node so.1).0) in
        record {
          inside = grind (arith, not_yet);
          before = λ bad. absurd (omega arith);
          free = λ _. (did.node, so.0, so.1, ahead_next begins so_far.inside few apart more so.2, runs_on refl);
        }
