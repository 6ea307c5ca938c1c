-- The lines of a delay.
--     kept_whole, kept_last      what a ring keeps
--     quiet-kept, lines-all      lines that have got nothing but silence need not be stepped
--     filled-none, filled-more, filled-all, first-alone      a buffer that is filled step by step, and at once
use Rattle.std.proofs.Common.{◌≡◌, ℕ, zero, suc, pos, ◌+◌, ◌-◌, ◌<◌, ◌≤◌, ◌⊎◌, inl, inr, List, [], ◌∷◌, ◌++◌, length, map, take, drop, get_or, ℤ, refl, sym, ◌∙◌, ap, ap₂, subst, arith, length-append, add-one, All}
use Rattle.std.specs.Prelude.{min}
use Rattle.std.proofs.lemmas.Bool.{cases_lt}
use Rattle.std.proofs.Math.ListN.{set}
use Rattle.std.proofs.Math.Seq.{take-append_seam, take-append-add, take-suc-set}
use Rattle.std.proofs.lemmas.List.Elements.{All-set}
use Rattle.std.proofs.lemmas.List.{ext_get_or, get_or-map, get_or-set_other, get_or-take, get_or_past, length-drop, length-map, length-take-le, take-append-le, take_all}
use Rattle.circular_buffer.specs.Buffer.{Buffer, buffer, keep_last}
use Rattle.port_mixer.specs.session_model.specs.Kinds.{delayed, input_at}
use Rattle.port_mixer.specs.session_model.specs.Samples.{below, silence}
use Rattle.port_mixer.specs.session_laws.proofs.ActivationLemmas.{get_or-map_below, length-map_below}
use Rattle.client_kinds.specs.Lines.{AreQuiet, IsFilled, IsWhole, items_of}

pub kept_whole : (xs : List ℤ) → keep_last (length xs) ([] ++ xs) ≡ xs
kept_whole xs = ap (λ n. drop n xs) (none (length xs))
  where
    none : (n : ℕ) → n - n ≡ 0
    none n = omega arith

pub kept_last : (n : ℕ) (xs ys : List ℤ) → length xs ≡ n → keep_last n (xs ++ ys) ≡ drop (length ys) (xs ++ ys)
kept_last n xs ys h = ap (λ m. drop m (xs ++ ys)) (omega (arith, h, length-append xs ys))

pub filled-none : (part : List ℤ) → IsFilled part 0 []
filled-none part = record { most = omega arith; front = refl }

-- behind a front that ends within the buffer more samples come; one that is full stays
pub filled-more : (part new before samples : List ℤ) (filled count : ℕ) → count ≡ min (length samples) (length part - filled)
    → new ≡ take filled part ++ (take count samples ++ drop (filled + count) part) → IsFilled part filled before → IsFilled new (filled + count) (before ++ samples)
filled-more part new before samples filled count many is done = record {
  most = omega (arith, long, done.most, many, length-append before samples);
  front = ap (take (filled + count)) is ∙ go (cases_lt (length before) (length part));
}
  where
    most : filled ≤ length part
    most = omega (arith, done.most)

    put : List ℤ
    put = take count samples ++ drop (filled + count) part

    behind : (a b c : ℕ) → a ≤ b → c ≡ b - a → a + c ≤ b
    behind a b c h e = omega (arith, h, e)

    within : filled + count ≤ length part
    within = omega (arith, many, most)

    count_within : count ≤ length samples
    count_within = omega (arith, many)

    long : length new ≡ length part
    long = ap length is
        ∙ length-append (take filled part) put
        ∙ omega (arith, length-take-le filled part most, length-append (take count samples) (drop (filled + count) part), length-take-le count samples count_within, length-drop (filled + count) part, within)

    -- what was put behind the front
    put-there : (xs : List ℤ) → length xs ≡ filled → take (filled + count) (xs ++ put) ≡ xs ++ take count samples
    put-there xs e =
        ap (λ n. take (n + count) (xs ++ put)) (sym e)
        ∙ take-append-add xs put count
        ∙ ap (λ ys. xs ++ ys) (ap (λ n. take n put) (sym (length-take-le count samples count_within)) ∙ take-append_seam (take count samples) (drop (filled + count) part))

    nothing-more : (xs : List ℤ) → (xs ++ []) ≡ xs
    nothing-more [] = refl
    nothing-more (x ∷ xs) = ap (λ ys. x ∷ ys) (nothing-more xs)

    go : (length before < length part) ⊎ (length part ≤ length before) → take (filled + count) (take filled part ++ put) ≡ take (filled + count) (before ++ samples)
    go (inr full) =
        put-there (take filled part) (length-take-le filled part most)
        ∙ ap (λ n. take filled part ++ take n samples) none
        ∙ nothing-more (take filled part)
        ∙ done.front
        ∙ sym (take-append-le filled before samples (omega (arith, done.most, full)))
        ∙ ap (λ n. take n (before ++ samples)) (let same : filled ≡ filled + count = omega (arith, none) in same)
      where
        none : count ≡ 0
        none = omega (arith, many, done.most, full)
    go (inl more) =
        put-there (take filled part) (length-take-le filled part most)
        ∙ ap (λ xs. xs ++ take count samples) (done.front ∙ ap (λ n. take n before) all ∙ take_all (length before) before (omega arith))
        ∙ sym (take-append-add before samples count)
        ∙ ap (λ n. take (n + count) (before ++ samples)) (sym all)
      where
        all : filled ≡ length before
        all = omega (arith, done.most, more)

-- as many samples as there is room for fill it
pub filled-all : (part samples : List ℤ) (filled n : ℕ) → length part ≡ n → n ≤ length samples → IsFilled part filled samples → part ≡ take n samples
filled-all part samples filled n long enough done =
    sym (take_all filled part (omega (arith, done.most, long, enough)))
    ∙ done.front
    ∙ ap (λ m. take m samples) (omega (arith, done.most, long, enough))

-- samples in front of others
pub first-alone : (n : ℕ) (front back x : List ℤ) → n ≤ length front → take n front ≡ take n ((front ++ back) ++ x)
first-alone n front back x enough =
    sym (take-append-le n front back enough) ∙ sym (take-append-le n (front ++ back) x (omega (arith, enough, length-append front back)))

pub lines-whole : (lines : List (Buffer ℤ)) (place : ℕ) (line : Buffer ℤ) → All IsWhole lines → IsWhole line → All IsWhole (set lines place line)
lines-whole lines place line all one = All-set IsWhole lines place line one all

pub lines-rest : (lines first : List (Buffer ℤ)) (place : ℕ) (line : Buffer ℤ) → ((k : ℕ) (d : Buffer ℤ) → place ≤ k → get_or lines k d ≡ get_or first k d)
    → (k : ℕ) (d : Buffer ℤ) → place < k → get_or (set lines place line) k d ≡ get_or first k d
lines-rest lines first place line rest k d h = get_or-set_other lines place k line d (λ e. apart (subst (λ n. place < n) e h)) ∙ rest k d (omega (arith, h))
  where
    apart : place < place → ⊥
    apart p = omega (arith, p)

map_more : {X Y : Type 0} (f : X → Y) (xs : List X) (x : X) → map f (xs ++ x ∷ []) ≡ map f xs ++ f x ∷ []
map_more f [] x = refl
map_more f (y ∷ xs) x = ap (λ ys. f y ∷ ys) (map_more f xs x)

-- the line at a place is stepped
pub lines-done : (period : ℕ) (inputs : List (List ℤ)) (lines first : List (Buffer ℤ)) (place : ℕ) (line before : Buffer ℤ) → place < length lines → length lines ≡ length first
    → before ≡ get_or lines place before → ((k : ℕ) (d : Buffer ℤ) → place ≤ k → get_or lines k d ≡ get_or first k d)
    → line.items ≡ drop period (before.items ++ input_at period inputs place)
    → items_of (take place lines) ≡ map (λ j. drop period (delayed period (items_of first) inputs j)) (below place)
    → items_of (take (place + 1) (set lines place line)) ≡ map (λ j. drop period (delayed period (items_of first) inputs j)) (below (place + 1))
lines-done period inputs lines first place line before within lengths is rest stepped done =
    ap (λ n. items_of (take n (set lines place line))) (add-one place)
    ∙ ap items_of (take-suc-set lines place line within)
    ∙ map_more (λ (line : Buffer ℤ). line.items) (take place lines) line
    ∙ ap₂ (λ (front : List (List ℤ)) (last : List ℤ). front ++ last ∷ []) done
    (stepped ∙ ap (λ (items : List ℤ). drop period (items ++ input_at period inputs place)) there)
    ∙ sym (map_more (λ j. drop period (delayed period (items_of first) inputs j)) (below place) place)
    ∙ ap (λ n. map (λ j. drop period (delayed period (items_of first) inputs j)) (below n)) (sym (add-one place))
  where
    there : before.items ≡ get_or (items_of first) place []
    there = ap (λ (line : Buffer ℤ). line.items) (is ∙ rest place before (omega arith)) ∙ sym (get_or-map (λ (line : Buffer ℤ). line.items) first place before [] (omega (arith, within, lengths)))

-- ---- lines that are silent

silent-more : (n m : ℕ) → drop m (silence n ++ silence m) ≡ silence n
silent-more n zero = nothing (silence n)
  where
    nothing : (xs : List ℤ) → xs ++ [] ≡ xs
    nothing [] = refl
    nothing (x ∷ xs) = ap (λ ys. x ∷ ys) (nothing xs)
silent-more zero (suc m) = silent-gone m
  where
    silent-gone : (m : ℕ) → drop m (silence m) ≡ []
    silent-gone zero = refl
    silent-gone (suc m) = silent-gone m
silent-more (suc n) (suc m) = ap (drop m) (one-first n m) ∙ silent-more (suc n) m
  where
    -- a zero in front is a zero behind
    one-first : (n m : ℕ) → silence n ++ silence (suc m) ≡ (pos 0 ∷ silence n) ++ silence m
    one-first zero m = refl
    one-first (suc n) m = ap (λ (xs : List ℤ). pos 0 ∷ xs) (one-first n m)

-- lines that are the same at a place have the same to play there
items-same : (xs ys : List (Buffer ℤ)) (k : ℕ) → length xs ≡ length ys → ((d : Buffer ℤ) → get_or xs k d ≡ get_or ys k d) → get_or (items_of xs) k [] ≡ get_or (items_of ys) k []
items-same xs ys k lengths same = go (cases_lt k (length xs))
  where
    items : Buffer ℤ → List ℤ
    items line = line.items

    none : Buffer ℤ
    none = buffer [] 0

    go : (k < length xs) ⊎ (length xs ≤ k) → get_or (items_of xs) k [] ≡ get_or (items_of ys) k []
    go (inl low) = get_or-map items xs k none [] low ∙ ap items (same none) ∙ sym (get_or-map items ys k none [] (omega (arith, low, lengths)))
    go (inr high) = get_or_past (items_of xs) k [] (omega (arith, high, length-map xs items)) ∙ sym (get_or_past (items_of ys) k [] (omega (arith, high, lengths, length-map ys items)))

-- those that no sample has reached stay silent
pub quiet-kept : (lines first : List (Buffer ℤ)) (before reached place : ℕ) → length lines ≡ length first → before ≤ reached → place ≤ reached → AreQuiet before first
    → ((k : ℕ) (d : Buffer ℤ) → place ≤ k → get_or lines k d ≡ get_or first k d) → AreQuiet reached lines
quiet-kept lines first before reached place lengths more within quiet rest k h =
    let same : get_or (items_of lines) k [] ≡ get_or (items_of first) k [] = items-same lines first k lengths (λ d. rest k d (omega (arith, h, within))) in
    same ∙ quiet k (omega (arith, h, more)) ∙ ap (λ (xs : List ℤ). silence (length xs)) (sym same)

-- all are stepped where those that samples have reached were
pub lines-all : (period : ℕ) (inputs : List (List ℤ)) (lines first : List (Buffer ℤ)) (before reached place : ℕ) → length lines ≡ length first → before ≤ reached
    → ((k : ℕ) → reached ≤ k → input_at period inputs k ≡ silence period) → min reached (length first) ≤ place → place ≤ length first → AreQuiet before first
    → ((k : ℕ) (d : Buffer ℤ) → place ≤ k → get_or lines k d ≡ get_or first k d)
    → items_of (take place lines) ≡ map (λ j. drop period (delayed period (items_of first) inputs j)) (below place)
    → items_of lines ≡ map (λ j. drop period (delayed period (items_of first) inputs j)) (below (length first))
lines-all period inputs lines first before reached place lengths more silent end within quiet rest done =
    ext_get_or [] (items_of lines) (map next (below (length first))) (length-map lines items ∙ lengths ∙ sym (length-map_below next (length first)))
    (λ k low. at k (omega (arith, low, lengths, length-map lines items)))
  where
    items : Buffer ℤ → List ℤ
    items line = line.items

    next : ℕ → List ℤ
    next j = drop period (delayed period (items_of first) inputs j)

    none : Buffer ℤ
    none = buffer [] 0

    stays : (k : ℕ) → reached ≤ k → get_or (items_of lines) k [] ≡ get_or (items_of first) k [] → get_or (items_of lines) k [] ≡ next k
    stays k h same =
        let xs : List ℤ = get_or (items_of first) k [] in
        let still : xs ≡ silence (length xs) = quiet k (omega (arith, h, more)) in
        same ∙ still ∙ sym (silent-more (length xs) period)
        ∙ ap₂ (λ (a b : List ℤ). drop period (a ++ b)) (sym still) (sym (silent k h))

    at : (k : ℕ) → k < length first → get_or (items_of lines) k [] ≡ get_or (map next (below (length first))) k []
    at k low = go (cases_lt k place) ∙ sym (get_or-map_below next (length first) k [] low)
      where
        go : (k < place) ⊎ (place ≤ k) → get_or (items_of lines) k [] ≡ next k
        go (inl front) =
            get_or-map items lines k none [] (omega (arith, low, lengths))
            ∙ ap items (sym (get_or-take place lines k none front))
            ∙ sym (get_or-map items (take place lines) k none [] (omega (arith, front, within, lengths, length-take-le place lines (omega (arith, within, lengths)))))
            ∙ ap (λ (all : List (List ℤ)). get_or all k []) done
            ∙ get_or-map_below next place k [] front
        go (inr high) = stays k (omega (arith, high, end, low)) (items-same lines first k lengths (λ d. rest k d high))

-- lines that are written back where as many were
pub put-back : (n : ℕ) (lines others : List (Buffer ℤ)) → n ≡ length lines → take n (lines ++ others) ≡ lines
put-back n lines others h = ap (λ (k : ℕ). take k (lines ++ others)) h ∙ take-append_seam lines others
