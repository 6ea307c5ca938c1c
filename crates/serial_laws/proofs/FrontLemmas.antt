-- Fronts of what was written so far, as fronts of the files.
--     behind_front      a list goes on behind its front
--     HasFront-longer, HasFront-told      a file in the making, and one that is finished
--     samples-more      the samples of a front of the blocks come first
--     HasFront-played, HasFront-recorded      what was played and kept so far
use Rattle.std.proofs.Common.{◌≡◌, inr, ℕ, zero, suc, ◌+◌, ◌-◌, ◌≤◌, Bool, List, [], ◌∷◌, ◌++◌, length, take, drop, None, Some, refl, sym, ◌∙◌, ap, subst, arith, append_assoc, append-nil, ℤ}
use Rattle.std.specs.Prelude.{IfSome, Option, filter, flat_map, map, not}
use Rattle.std.proofs.Math.Seq.{take-length}
use Rattle.std.proofs.lemmas.List.{map-append, take-append-drop}
use Rattle.std.proofs.lemmas.List.Concat.{flat_map-append}
use Rattle.std.proofs.lemmas.List.Elements.{filter-append}
use Rattle.jack_types.specs.declared.files.Format.{Format}
use Rattle.jack_types.specs.declared.replies.Overrun.{Overrun}
use Rattle.session_model.specs.Courses.{Course, turn}
use Rattle.session_model.specs.Playback.{played_back, played_in}
use Rattle.session_model.specs.Recorders.{block, recorded}
use Rattle.session_model.specs.Rings.{RingBlock, samples_of_blocks}
use Rattle.session_model.specs.Samples.{below}
use Rattle.session_model.specs.Scripts.{turns}
use Rattle.session_model.specs.WaveFiles.{wave_text}
use Rattle.driver_words.specs.Tapes.{HasFront, HasUnfinished}
use Rattle.wave_write.proofs.TapeLemmas.{unfinished-front, unfinished-longer}
use Rattle.run_laws.specs.driver_laws.specs.Keeping.{is_kept, kept_blocks, played_so_far}

-- a list goes on behind its front
pub behind_front : {X : Type 0} (front whole : List X) → front ≡ take (length front) whole → (rest : List X) × (whole ≡ front ++ rest)
behind_front front whole is = (drop (length front) whole, sym (take-append-drop (length front) whole) ∙ ap (λ xs. xs ++ drop (length front) whole) (sym is))

-- ---- files

-- a front of an unfinished file is one of each longer file
pub HasFront-longer : (format : Format) (samples more : List ℤ) (told : Option (List ℕ)) → HasUnfinished format samples told → HasFront format (samples ++ more) told
HasFront-longer format samples more told has = unfinished-front format (samples ++ more) told (unfinished-longer format samples more told has)

-- the finished file is a front of itself
whole-front : (format : Format) (samples : List ℤ) → HasFront format samples (Some (wave_text format samples))
whole-front format samples =
    let text = wave_text format samples in
    inr (take 44 text, length (drop 44 text), (refl, λ i. inr refl), sym (ap (λ (rest : List ℕ). take 44 text ++ rest) (take-length (drop 44 text)) ∙ take-append-drop 44 text))

pub HasFront-told : (format : Format) (samples : List ℤ) (told : Option (List ℕ)) → IfSome told (λ text. text ≡ wave_text format samples) → HasFront format samples told
HasFront-told format samples None h = tt
HasFront-told format samples (Some text) h = subst (λ (bytes : List ℕ). HasFront format samples (Some bytes)) (sym h) (whole-front format samples)

-- ---- what was played and kept so far

below-more : (n k : ℕ) → (rest : List ℕ) × (below (k + n) ≡ below n ++ rest)
below-more n zero = let e : 0 + n ≡ n = omega arith in ([], ap below e ∙ sym (append-nil (below n)))
below-more n (suc k) =
    let e : suc k + n ≡ suc (k + n) = omega arith in
    let w = below-more n k in
    (w.0 ++ (k + n) ∷ [], ap below e ∙ ap (λ xs. xs ++ (k + n) ∷ []) w.1 ∙ append_assoc (below n) w.0 ((k + n) ∷ []))

below-longer : (n m : ℕ) → n ≤ m → (rest : List ℕ) × (below m ≡ below n ++ rest)
below-longer n m low =
    let e : m ≡ (m - n) + n = omega (arith, low) in
    let w = below-more n (m - n) in
    (w.0, ap below e ∙ w.1)

-- the samples of a front of the blocks come first
pub samples-more : (front rest : List RingBlock) → samples_of_blocks (front ++ rest) ≡ samples_of_blocks front ++ samples_of_blocks rest
samples-more front rest = flat_map-append (λ (b : RingBlock). b.samples) front rest

module _ (course : Course) where
  played-longer : (n m : ℕ) → n ≤ m → (rest : List ℤ) × (played_so_far course m ≡ played_so_far course n ++ rest)
  played-longer n m low =
      let is_run : ℕ → Bool = λ i. not (turn course (i + 1)).is_freewheel in
      let play : ℕ → List ℤ = λ i. played_in course (i + 1) in
      let w = below-longer n m low in (
        flat_map play (filter is_run w.0),
        ap (λ is. flat_map play (filter is_run is)) w.1
            ∙ ap (flat_map play) (filter-append is_run (below n) w.0)
            ∙ flat_map-append play (filter is_run (below n)) (filter is_run w.0),
      )

  kept-longer : (losses : List Overrun) (recorder n m : ℕ) → n ≤ m → (rest : List RingBlock) × (kept_blocks course losses recorder m ≡ kept_blocks course losses recorder n ++ rest)
  kept-longer losses recorder n m low =
      let made : ℕ → RingBlock = λ i. record { cycle = i + 1; samples = block course recorder (i + 1) } in
      let kept : ℕ → Bool = is_kept course losses recorder in
      let w = below-longer n m low in (
        map made (filter kept w.0),
        ap (λ is. map made (filter kept is)) w.1
            ∙ ap (map made) (filter-append kept (below n) w.0)
            ∙ map-append made (filter kept (below n)) (filter kept w.0),
      )

-- behind all cycles these are the files
abbrev pub PlayedIsAll : Type 0
PlayedIsAll = (course : Course) → played_so_far course (length (turns course.script)) ≡ played_back course

abbrev pub KeptAreAll : Type 0
KeptAreAll = (course : Course) (losses : List Overrun) (recorder : ℕ) → samples_of_blocks (kept_blocks course losses recorder (length (turns course.script))) ≡ recorded course losses recorder

pub HasFront-played : PlayedIsAll → (course : Course) (n : ℕ) (format : Format) (bytes : Option (List ℕ)) → n ≤ length (turns course.script) → HasUnfinished format (played_so_far course n) bytes → HasFront format (played_back course) bytes
HasFront-played all course n format bytes low has =
    let w = played-longer course n (length (turns course.script)) low in
    subst (λ samples. HasFront format samples bytes) (sym w.1 ∙ all course) (HasFront-longer format (played_so_far course n) w.0 bytes has)

pub HasFront-recorded : KeptAreAll → (course : Course) (losses : List Overrun) (recorder n : ℕ) (format : Format) (blocks : List RingBlock) (bytes : Option (List ℕ)) → n ≤ length (turns course.script)
    → blocks ≡ take (length blocks) (kept_blocks course losses recorder n) → HasUnfinished format (samples_of_blocks blocks) bytes → HasFront format (recorded course losses recorder) bytes
HasFront-recorded all course losses recorder n format blocks bytes low front has =
    let w = kept-longer course losses recorder n (length (turns course.script)) low in
    let f = behind_front blocks (kept_blocks course losses recorder n) front in
    let whole : kept_blocks course losses recorder (length (turns course.script)) ≡ blocks ++ (f.0 ++ w.0) =
    w.1 ∙ ap (λ bs. bs ++ w.0) f.1 ∙ append_assoc blocks f.0 w.0 in
    subst (λ samples. HasFront format samples bytes) (sym (ap samples_of_blocks whole ∙ samples-more blocks (f.0 ++ w.0)) ∙ all course losses recorder)
    (HasFront-longer format (samples_of_blocks blocks) (samples_of_blocks (f.0 ++ w.0)) bytes has)
