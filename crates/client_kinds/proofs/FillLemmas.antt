-- Buffers that are filled sample by sample.
--     fill_more      one more sample
--     tone_low, tone_high      a square wave
--     tone_turned      it repeats
--     frame_after, frame_below      the next frame of a square wave's length
--     piece-done      a piece behind a front that is done
use Rattle.std.proofs.Common.{◌≡◌, ℕ, suc, ◌+◌, ◌*◌, ◌%◌, ◌<◌, ◌≤◌, List, [], ◌∷◌, ◌++◌, length, map, take, drop, ◌-◌, ℤ, neg_ℤ, Bool, cond, nat_lt, refl, sym, ◌∙◌, ap, ap₂, subst, arith, add-one}
use Rattle.std.proofs.Math.ListN.{set}
use Rattle.std.proofs.Math.Nat.{mod-eq_of_lt, mod-add-mod, mod-lt}
use Rattle.std.proofs.Math.Seq.{take-add, take-suc-set}
use Rattle.std.proofs.lemmas.List.{length-drop, length-map, length-take-le, map-append}
use Rattle.std.proofs.lemmas.Slice.{take-put_mid}
use borrow.Rule.Slice.PartMut.{put_mid}
use Rattle.std.proofs.lemmas.Bool.{le-leb, le-ltb}
use Rattle.port_mixer.specs.session_model.specs.Kinds.{tone_sample}
use Rattle.port_mixer.specs.session_model.specs.Samples.{below}

map_more : {X Y : Type 0} (f : X → Y) (xs : List X) (x : X) → map f (xs ++ x ∷ []) ≡ map f xs ++ f x ∷ []
map_more f [] x = refl
map_more f (y ∷ xs) x = ap (λ ys. f y ∷ ys) (map_more f xs x)

pub fill_more : (f : ℕ → ℤ) (part : List ℤ) (i : ℕ) (x : ℤ) → i < length part → take i part ≡ map f (below i) → x ≡ f i → take (i + 1) (set part i x) ≡ map f (below (i + 1))
fill_more f part i x within before is =
    ap (λ n. take n (set part i x)) (add-one i) ∙ take-suc-set part i x within ∙ ap₂ (λ (front : List ℤ) (y : ℤ). front ++ y ∷ []) before is
    ∙ sym (map_more f (below i) i) ∙ ap (λ n. map f (below n)) (sym (add-one i))

pub tone_low : (half : ℕ) (level : ℤ) (n : ℕ) → n < half → tone_sample half level n ≡ level
tone_low half level n within = ap (λ (b : Bool). cond b level (neg_ℤ level)) (le-leb (suc (n % (2 * half))) half (omega (arith, within, mod-eq_of_lt wide)))
  where
    wide : n < 2 * half
    wide = omega (arith, within)

pub tone_high : (half : ℕ) (level : ℤ) (n : ℕ) → half ≤ n → n < 2 * half → tone_sample half level n ≡ neg_ℤ level
tone_high half level n high within = ap (λ (b : Bool). cond b level (neg_ℤ level)) (le-ltb (n % (2 * half)) half (omega (arith, high, mod-eq_of_lt within)))

pub tone_turned : (half : ℕ) (level : ℤ) (n m : ℕ) → n ≡ m % (2 * half) → n < 2 * half → tone_sample half level n ≡ tone_sample half level m
tone_turned half level n m is within = ap (λ r. cond (nat_lt r half) level (neg_ℤ level)) (mod-eq_of_lt within ∙ is)

pub frame_after : (half n m : ℕ) → m ≡ n % (2 * half) → (m + 1) % (2 * half) ≡ (n + 1) % (2 * half)
frame_after half n m is = ap (λ r. (r + 1) % (2 * half)) is ∙ mod-add-mod n (2 * half) 1

pub frame_below : (half n m : ℕ) → m ≡ n % (2 * half) → 0 < half → m < 2 * half
frame_below half n m is some = subst (λ k. k < 2 * half) (sym is) (mod-lt n (omega (arith, some)))

-- ---- a gain, a piece after another

pub piece-done : (f : ℤ → ℤ) (x part new : List ℤ) (done end : ℕ) → done ≤ end → end ≤ length x → length part ≡ length x → new ≡ map f (take (end - done) (drop done x))
    → take done part ≡ map f (take done x) → take end (put_mid done (end - done) part new) ≡ map f (take end x)
piece-done f x part new done end order within lengths is front =
    take-put_mid done (end - done) part new end (omega (arith, order, long)) (omega (arith, order, within, lengths))
    ∙ ap₂ (λ (a b : List ℤ). a ++ b) front is
    ∙ sym (map-append f (take done x) (take (end - done) (drop done x)))
    ∙ ap (map f) (sym (take-add done (end - done) x) ∙ ap (λ (n : ℕ). take n x) (omega (arith, order)))
  where
    long : length new ≡ end - done
    long = ap length is ∙ length-map (take (end - done) (drop done x)) f ∙ length-take-le (end - done) (drop done x) (omega (arith, order, within, length-drop done x))
