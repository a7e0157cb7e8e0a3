-- A flight that goes round.
use Rattle.fx_direct.proofs.Words.{arith, ℕ, ◌≡◌, [], ◌∷◌, refl, true, false, Some, None, Pending, pending, Waits, Made, Quit, OpenAt, UseOf, CloseOf, phase_at, Free, IsEmptyStart}
use Rattle.fx_direct.proofs.Words.{Reserves, Adopts, Chains, Opens, Starts, Finishes, Holds, Releases, Ends, Asks, Closes, FailsToClose, Look, Release, Put, Take, Close, CanDo}
use Rattle.fx_direct.proofs.Flown.{begun, chooses, one_left, does, outside, ranged, second, inside, makes, one_life, only, others, quits, three_lives, two_lives, use1, waits}
use Rattle.fx_direct.specs.Round.{two_slots, some_file, next_file, first_key, second_key, third_key, adopted_key, later_key, third_file, fourth_file, GoesRound}

free : (slot : ℕ) → phase_at two_slots.slots slot ≡ Free
free slot = grind arith

-- the members of the second and third chain
abbrev use2 : Pending
use2 = pending (UseOf second_key) true Waits

abbrev close2 : Pending
close2 = pending (CloseOf second_key) true Waits

abbrev open2 : Pending
open2 = pending (OpenAt second_key) false Made

abbrev used2 : Pending
used2 = pending (UseOf second_key) true Quit

abbrev close3 : Pending
close3 = pending (CloseOf third_key) true Waits

starts : IsEmptyStart two_slots
starts = record { free = free; inside = omega arith; empty = λ s lt. refl; idle = refl }

pub goes_round : GoesRound
goes_round =
    let f1 = does (begun CanDo) (Reserves first_key) (waits (OpenAt first_key) ∷ []) ((inside, refl, refl, one_life), outside) refl in
    let f2 = makes f1 (OpenAt first_key) false (Put 0 some_file None) [] [] (inside, refl, refl) refl refl tt in
    let f3 = does f2 (Opens first_key true) [] (((inside, refl), refl), tt) (only (OpenAt first_key) false Made []) in
    let f4 = does f3 (Starts first_key) (use1 ∷ []) (((inside, refl), refl), tt) refl in
    let f5 = does f4 (Holds first_key) (use1 ∷ []) (((inside, refl), refl), tt) refl in
    let f6 = makes f5 (UseOf first_key) false (Look 0 (Some some_file)) [] [] (inside, refl) refl refl tt in
    let f7 = does f6 (Ends first_key) (use1 ∷ []) (((inside, refl), refl), tt) refl in
    let f8 = makes f7 (UseOf first_key) false (Release some_file) [] [] one_left refl tt tt in
    let f9 = quits f8 (UseOf first_key) false [] [] refl in
    let f10 = does f9 (Finishes first_key) [] (((inside, refl), one_left), tt) (only (UseOf first_key) false Quit []) in
    let f11 = does f10 (Releases first_key) [] (((inside, refl), one_left), tt) refl in
    let f12 = does f11 (Asks first_key) (waits (CloseOf first_key) ∷ []) (((inside, refl), refl), tt) refl in
    let f13 = quits f12 (CloseOf first_key) false [] [] refl in
    let f14 = does f13 (FailsToClose first_key) [] (((inside, refl), refl), tt) (only (CloseOf first_key) false Quit []) in
    let f15 = does f14 (Asks first_key) (waits (CloseOf first_key) ∷ []) (((inside, refl), refl), tt) refl in
    let f16 = makes f15 (CloseOf first_key) false (Take 0 (Some some_file)) [] [] (inside, refl) refl refl tt in
    let f17 = others f16 (Close some_file) (refl, refl) tt in
    let f18 = does f17 (Closes first_key) [] (((inside, refl), refl), tt) (only (CloseOf first_key) false Made []) in
    -- the chain
    let f19 = does f18 (Reserves second_key) (waits (OpenAt second_key) ∷ []) ((inside, refl, refl, two_lives), outside) refl in
    let f20 = does f19 (Chains second_key 1 true) (close2 ∷ use2 ∷ waits (OpenAt second_key) ∷ []) (((inside, refl), refl), tt) refl in
    let f21 = makes f20 (OpenAt second_key) false (Put 0 next_file None) (close2 ∷ use2 ∷ []) [] (inside, refl, refl) refl refl tt in
    let f22 = makes f21 (UseOf second_key) true (Look 0 (Some next_file)) (close2 ∷ []) (open2 ∷ []) (inside, refl) refl refl (refl, (refl, (refl, tt))) in
    let f23 = makes f22 (UseOf second_key) true (Release next_file) (close2 ∷ []) (open2 ∷ []) one_left refl tt (refl, (refl, (refl, tt))) in
    let f24 = quits f23 (UseOf second_key) true (close2 ∷ []) (open2 ∷ []) refl in
    let f25 = makes f24 (CloseOf second_key) true (Take 0 (Some next_file)) [] (used2 ∷ open2 ∷ []) (inside, refl) refl refl (refl, (refl, (refl, tt))) in
    let f26 = does f25 (Closes second_key) (used2 ∷ open2 ∷ []) (((inside, refl), refl), tt) (only (CloseOf second_key) true Made (used2 ∷ open2 ∷ [])) in
    let f27 = does f26 (Finishes second_key) (open2 ∷ []) (((inside, refl), one_left), tt) (only (UseOf second_key) true Quit (open2 ∷ [])) in
    let f28 = does f27 (Opens second_key true) [] (((inside, refl), refl), tt) (only (OpenAt second_key) false Made []) in
    -- the chain whose open fails
    let f29 = does f28 (Reserves third_key) (waits (OpenAt third_key) ∷ []) ((inside, refl, refl, three_lives), outside) refl in
    let f30 = does f29 (Chains third_key 0 true) (close3 ∷ waits (OpenAt third_key) ∷ []) (((inside, refl), refl), tt) refl in
    let f31 = quits f30 (OpenAt third_key) false (close3 ∷ []) [] refl in
    let f32 = makes f31 (CloseOf third_key) true (Take 0 None) [] (pending (OpenAt third_key) false Quit ∷ []) (inside, refl) refl refl (refl, (refl, tt)) in
    let f33 = does f32 (Opens third_key false) (pending (CloseOf third_key) true Quit ∷ []) (((inside, refl), refl), tt)
    (record { front = pending (CloseOf third_key) true Quit ∷ []; rest = []; linked = false; was = refl; is = refl }) in
    let f34 = does f33 (FailsToClose third_key) [] (((inside, refl), refl), tt) (only (CloseOf third_key) true Quit []) in
    -- the slot that the kernel chooses
    let f35 = chooses f34 adopted_key third_file (second, ranged, refl, refl) second refl in
    let f36 = does f35 (Adopts adopted_key) [] ((second, refl, refl, one_life), (ranged, third_file, refl)) refl in
    let f37 = does f36 (Ends adopted_key) [] (((second, refl), refl), tt) refl in
    let f38 = does f37 (Asks adopted_key) (waits (CloseOf adopted_key) ∷ []) (((second, refl), refl), tt) refl in
    let f39 = makes f38 (CloseOf adopted_key) false (Take 1 (Some third_file)) [] [] (second, refl) refl refl tt in
    let f40 = chooses f39 later_key fourth_file (second, ranged, refl, refl) second refl in
    let f41 = does f40 (Closes adopted_key) [] (((second, refl), refl), tt) (only (CloseOf adopted_key) false Made []) in
    let f42 = does f41 (Adopts later_key) [] ((second, refl, refl, two_lives), (ranged, fourth_file, refl)) refl in
    (starts, f42.end, f42.flight)
