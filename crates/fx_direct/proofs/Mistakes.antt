-- A flight in which a close doesn't wait, one in which a slot is free before its chain is over, and
-- one in which a life is reserved where the kernel chooses slots.
use Rattle.fx_direct.proofs.Words.{[], ◌∷◌, refl, true, false, Some, None, pending, Waits, Made, OpenAt, UseOf, CloseOf, Reserves, Chains, Opens, Starts, Ends, Asks, Closes, Put, Look, Take}
use Rattle.fx_direct.proofs.Flown.{begun, chooses, does, outside, ranged, second, inside, makes, one_life, only, quits, two_lives, use1, waits}
use Rattle.fx_direct.specs.Round.{some_file, next_file, first_key, second_key, adopted_key, later_key}
use Rattle.fx_direct.specs.Haste.{IsEnabledInHaste, IsEnabledEarly, IsEnabledInRange, HasteIsWrong, ChainIsNotAnOpen, RangeIsTheKernels}

pub haste_is_wrong : HasteIsWrong
haste_is_wrong =
    let f1 = does (begun IsEnabledInHaste) (Reserves first_key) (waits (OpenAt first_key) ∷ []) ((inside, refl, refl, one_life), outside) refl in
    let f2 = makes f1 (OpenAt first_key) false (Put 0 some_file None) [] [] (inside, refl, refl) refl refl tt in
    let f3 = does f2 (Opens first_key true) [] (((inside, refl), refl), tt) (only (OpenAt first_key) false Made []) in
    let f4 = does f3 (Starts first_key) (use1 ∷ []) (((inside, refl), refl), tt) refl in
    let f5 = does f4 (Ends first_key) (use1 ∷ []) (((inside, refl), refl), tt) refl in
    let f6 = does f5 (Asks first_key) (waits (CloseOf first_key) ∷ use1 ∷ []) ((inside, refl), 1, 0, refl) refl in
    let f7 = makes f6 (CloseOf first_key) false (Take 0 (Some some_file)) [] (use1 ∷ []) (inside, refl) refl refl tt in
    let f8 = does f7 (Closes first_key) (use1 ∷ []) (((inside, refl), refl), tt) (only (CloseOf first_key) false Made (use1 ∷ [])) in
    let f9 = does f8 (Reserves second_key) (waits (OpenAt second_key) ∷ use1 ∷ []) ((inside, refl, refl, two_lives), outside) refl in
    let f10 = makes f9 (OpenAt second_key) false (Put 0 next_file None) [] (use1 ∷ []) (inside, refl, refl) refl refl tt in
    let f11 = makes f10 (UseOf first_key) false (Look 0 (Some next_file)) (pending (OpenAt second_key) false Made ∷ []) [] (inside, refl) refl refl tt in
    (f11.end, f11.flight)

pub chain_is_not_an_open : ChainIsNotAnOpen
chain_is_not_an_open =
    let close = pending (CloseOf first_key) true Waits in
    let f1 = does (begun IsEnabledEarly) (Reserves first_key) (waits (OpenAt first_key) ∷ []) (inside, refl, refl, one_life, outside) refl in
    let f2 = does f1 (Chains first_key 0 true) (close ∷ waits (OpenAt first_key) ∷ []) (((inside, refl), refl), tt) refl in
    let f3 = quits f2 (OpenAt first_key) false (close ∷ []) [] refl in
    let f4 = does f3 (Opens first_key false) (close ∷ []) (((inside, refl), refl), tt) (record { front = close ∷ []; rest = []; linked = false; was = refl; is = refl }) in
    let f5 = does f4 (Reserves second_key) (waits (OpenAt second_key) ∷ close ∷ []) (inside, refl, refl, two_lives, outside) refl in
    let f6 = makes f5 (OpenAt second_key) false (Put 0 some_file None) [] (close ∷ []) (inside, refl, refl) refl refl tt in
    let f7 = makes f6 (CloseOf first_key) true (Take 0 (Some some_file)) (pending (OpenAt second_key) false Made ∷ []) [] (inside, refl) refl refl (refl, (refl, tt)) in
    (f7.end, f7.flight)

pub range_is_the_kernels : RangeIsTheKernels
range_is_the_kernels =
    let f1 = does (begun IsEnabledInRange) (Reserves adopted_key) (waits (OpenAt adopted_key) ∷ []) (second, refl, refl, one_life) refl in
    let f2 = chooses f1 later_key some_file (second, ranged, refl, refl) second refl in
    let f3 = makes f2 (OpenAt adopted_key) false (Put 1 next_file (Some some_file)) [] [] (second, refl, refl) refl refl tt in
    (f3.end, f3.flight)
