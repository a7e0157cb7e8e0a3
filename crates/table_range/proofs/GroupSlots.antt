-- The groups of a range: their slots, and their number.
use Rattle.table_range.proofs.Words.{◌≡◌, ℕ, suc, ◌+◌, ◌-◌, ◌*◌, ◌/◌, ◌<◌, ◌≤◌, sym, ap, ◌∙◌, arith, subst, Bool, true, false, cond, nat_lt}
use Rattle.std.proofs.lemmas.Bool.{ltb-false}
use Rattle.table_range.proofs.Words.{refl, lt-ltb, le-ltb, ◌⊎◌, ⊎_elim, inl, inr, dite, dec_le, group_size, groups_in, group_of, group_start, group_len}
use Rattle.table_range.proofs.Words.{is_in, MOST_IN_RANGE, group_at, group_place}

-- what holds of each size of a group, by the length of the range
pub by_size : (P : ℕ → Type 0) (len : ℕ) → (len ≤ 256 → P 4) → (len ≤ 4096 → P 64) → (len ≤ 65536 → P 1024) → P 16384 → P (group_size len)
by_size P len small middle large largest = go (nat_lt 65536 len) (nat_lt 4096 len) (nat_lt 256 len) refl refl refl
  where
    go : (a b c : Bool) → nat_lt 65536 len ≡ a → nat_lt 4096 len ≡ b → nat_lt 256 len ≡ c → P (cond a 16384 (cond b 1024 (cond c 64 4)))
    go true b c x y z = largest
    go false true c x y z = large (ltb-false 65536 len x)
    go false false true x y z = middle (ltb-false 4096 len y)
    go false false false x y z = small (ltb-false 256 len z)

-- the lesser of two numbers
abbrev lesser : ℕ → ℕ → ℕ
lesser a b = cond (nat_lt a b) a b

lesser_so : (a b : ℕ) → ((a < b) × (lesser a b ≡ a)) ⊎ ((b ≤ a) × (lesser a b ≡ b))
lesser_so a b = dite (dec_le (suc a) b)
    (λ l. inl (omega (arith, l), ap (λ (t : Bool). cond t a b) (lt-ltb a b (omega (arith, l)))))
    (λ g. inr (omega (arith, g), ap (λ (t : Bool). cond t a b) (le-ltb a b (omega (arith, g)))))

-- the slots of a group are those of the range that are in the group
abbrev Inner : (off len s g : ℕ) → ℕ → Type 0
Inner off len s g size = off ≤ s → s < off + len → (s - off) / size ≡ g
    → (off + g * size ≤ s) × (s < off + g * size + lesser (len - g * size) size)

pub in_group : (range : ℕ × ℕ) (s g : ℕ) → range.0 ≤ s → s < range.0 + range.1 → group_of range s ≡ g
    → (group_start range g ≤ s) × (s < group_start range g + group_len range.1 g)
in_group range s g = by_size (Inner range.0 range.1 s g) range.1
    (λ _ low high is. (omega (arith, low, high, is), omega (arith, low, high, is, lesser_so (range.1 - g * 4) 4)))
    (λ _ low high is. (omega (arith, low, high, is), omega (arith, low, high, is, lesser_so (range.1 - g * 64) 64)))
    (λ _ low high is. (omega (arith, low, high, is), omega (arith, low, high, is, lesser_so (range.1 - g * 1024) 1024)))
    (λ low high is. (omega (arith, low, high, is), omega (arith, low, high, is, lesser_so (range.1 - g * 16384) 16384)))

abbrev Outer : (off len s g : ℕ) → ℕ → Type 0
Outer off len s g size = off + g * size ≤ s → s < off + g * size + lesser (len - g * size) size
    → (off ≤ s) × (s < off + len) × ((s - off) / size ≡ g)

pub of_group : (range : ℕ × ℕ) (s g : ℕ) → group_start range g ≤ s → s < group_start range g + group_len range.1 g
    → (range.0 ≤ s) × (s < range.0 + range.1) × (group_of range s ≡ g)
of_group range s g = by_size (Outer range.0 range.1 s g) range.1
    (λ _ low high. let c = lesser_so (range.1 - g * 4) 4 in (omega (arith, low), omega (arith, low, high, c), omega (arith, low, high, c)))
    (λ _ low high. let c = lesser_so (range.1 - g * 64) 64 in (omega (arith, low), omega (arith, low, high, c), omega (arith, low, high, c)))
    (λ _ low high. let c = lesser_so (range.1 - g * 1024) 1024 in (omega (arith, low), omega (arith, low, high, c), omega (arith, low, high, c)))
    (λ low high. let c = lesser_so (range.1 - g * 16384) 16384 in (omega (arith, low), omega (arith, low, high, c), omega (arith, low, high, c)))

-- the group of a slot of the range is one of its groups
pub is_group : (range : ℕ × ℕ) (s : ℕ) → range.0 ≤ s → s < range.0 + range.1 → group_of range s < groups_in range.1
is_group range s = by_size (λ size. range.0 ≤ s → s < range.0 + range.1 → (s - range.0) / size < (range.1 + (size - 1)) / size) range.1
    (λ _ low high. omega arith) (λ _ low high. omega arith) (λ _ low high. omega arith) (λ low high. omega arith)

-- the group of a slot, by the size of each
pub group_by : (range : ℕ × ℕ) (s start len size : ℕ) → ◌≡◌ {A = ℕ × ℕ} (start, len) range → group_size len ≡ size → (s - start) / size ≡ group_of range s
group_by range s start len size same is = subst (λ (z : ℕ × ℕ). (s - start) / size ≡ group_of z s) same (ap (λ (n : ℕ). (s - start) / n) (sym is))

-- a range has few groups
pub few_groups : (len : ℕ) → len ≤ MOST_IN_RANGE → groups_in len ≤ 64
few_groups len few = by_size (λ size. (len + (size - 1)) / size ≤ 64) len (λ l. omega (arith, l)) (λ l. omega (arith, l)) (λ l. omega (arith, l))
    (omega (arith, few))

-- a group has at most as many slots as each
pub group_short : (len g : ℕ) → group_len len g ≤ group_size len
group_short len g = omega (arith, lesser_so (len - g * group_size len) (group_size len))

-- and these are few
pub few_slots : (len g : ℕ) → group_len len g ≤ 16384
few_slots len g = let a = group_short len g in
    let b = by_size (λ size. size ≤ 16384) len (λ _. omega arith) (λ _. omega arith) (λ _. omega arith) (omega arith) in omega (arith, a, b)

-- a slot before the range, and one after its first slot
before : (range : ℕ × ℕ) (s : ℕ) → s < range.0 → is_in range s ≡ false
before range s low = ap (λ (b : Bool). cond b false (nat_lt s (range.0 + range.1))) (lt-ltb s range.0 low)

not_before : (range : ℕ × ℕ) (s : ℕ) → range.0 ≤ s → is_in range s ≡ nat_lt s (range.0 + range.1)
not_before range s high = ap (λ (b : Bool). cond b false (nat_lt s (range.0 + range.1))) (le-ltb s range.0 high)

-- a slot of the range
pub in_range_so : (range : ℕ × ℕ) (s : ℕ) → range.0 ≤ s → s < range.0 + range.1 → is_in range s ≡ true
in_range_so range s low high = not_before range s low ∙ lt-ltb s (range.0 + range.1) high

-- a slot is in the range, or not
pub is_in_or : (range : ℕ × ℕ) (s : ℕ) → ((range.0 ≤ s) × (s < range.0 + range.1) × (is_in range s ≡ true))
    ⊎ ((range.0 ≤ s → s < range.0 + range.1 → ⊥) × (is_in range s ≡ false))
is_in_or range s = dite (dec_le (suc s) range.0)
    (λ low. inr ((λ a b. omega (arith, low, a)), before range s (omega (arith, low))))
    (λ high. dite (dec_le (suc s) (range.0 + range.1))
    (λ inside. inl (omega (arith, high), omega (arith, inside), in_range_so range s (omega (arith, high)) (omega (arith, inside))))
    (λ past. inr ((λ a b. omega (arith, past, b)), not_before range s (omega (arith, high)) ∙ le-ltb s (range.0 + range.1) (omega (arith, past)))))

-- what it says of one that is
pub was_in : (range : ℕ × ℕ) (s : ℕ) → is_in range s ≡ true → (range.0 ≤ s) × (s < range.0 + range.1)
was_in range s is = ⊎_elim (λ inside. (inside.0, inside.1)) (λ out. let bad : true ≡ false = sym is ∙ out.1 in absurd (cc bad)) (is_in_or range s)

-- a group's word is its own
pub group_back : (g : ℕ) → group_at (group_place g) ≡ g
group_back g = omega arith
