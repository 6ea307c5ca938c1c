-- One get and its put.
use Rattle.std.proofs.Common.{◌≡◌, ℕ, ◌+◌, ◌*◌, ◌≤◌, true, false, List, [], ◌∷◌, ◌++◌, length, take, Option, Some, None, IfSome, Result, Ok, Err, OnErr, sym, refl, ap, ◌∙◌, subst, arith, length-append}
use Rattle.std.specs.Prelude.{ℤ}
use Rattle.std.proofs.lemmas.List.Sums.{sum_by_push}
use Rattle.jack_host.specs.Bytes.{Gains}
use Rattle.jack_types.specs.declared.files.Format.{Format}
use Rattle.wave_write.specs.wave_laws.proofs.WaveSamples.{by_width, length-bytes_of}
use Rattle.session_model.specs.Rings.{RingBlock, samples_of_blocks}
use Rattle.session_model.specs.Samples.{width, bytes_of}
use Rattle.session_model.specs.WaveFiles.{IsFormat, is_width, opening_text}
use Rattle.record_ring.specs.driver_words.specs.Rings.{Getting, items_of}
use Rattle.record_ring.specs.driver_words.specs.Tapes.{Tape, HasSamples, HasUnfinished, Gained, GainedPart, SameFile}
use Rattle.disk_recorder.specs.Recordings.{MayWrite, SameEnds, Writes, Fails, IsCutBehind}
use Rattle.disk_recorder.proofs.Fronts.{front_append, samples_more}

-- the bytes of all blocks of a ring are few enough
pub room : (bits written items more most : ℕ) → is_width bits ≡ true → written ≤ items * width bits → items + more ≤ most → most ≤ 1000000000 → written + more * width bits ≤ 4294967000
room bits written items more most wide = by_width (λ b. written ≤ items * width b → items + more ≤ most → most ≤ 1000000000 → written + more * width b ≤ 4294967000) bits wide (λ a b c. omega arith) (λ a b c. omega arith) (λ a b c. omega arith) (λ a b c. omega arith)

grown : (bits written items more : ℕ) → is_width bits ≡ true → written ≤ items * width bits → written + more * width bits ≤ (items + more) * width bits
grown bits written items more wide = by_width (λ b. written ≤ items * width b → written + more * width b ≤ (items + more) * width b) bits wide (λ a. omega arith) (λ a. omega arith) (λ a. omega arith) (λ a. omega arith)

pub items_more : (got : List RingBlock) (block : RingBlock) → items_of (got ++ block ∷ []) ≡ items_of got + length block.samples
items_more got block = sum_by_push (λ (b : RingBlock). length b.samples) got block

-- the consumer behind a get of this block
abbrev pub behind : Getting → RingBlock → ℕ → Getting
behind g block found = record g { got = g.got ++ block ∷ []; finds = g.finds ++ found ∷ []; least = found }

ends : (g : Getting) (t t' : Tape) (block : RingBlock) (found : ℕ) → g.least ≤ found → SameFile t t' → SameEnds g t (behind g block found) t'
ends g t t' block found least same = record { table = refl; room = refl; most = refl; format = same.format; name = same.name; tells = same.tells; later = same.later; least = least }

pub wrote : (g g' : Getting) (t t' : Tape) (block : RingBlock) (found : ℕ) → MayWrite g t → g' ≡ behind g block found → g.least ≤ found → items_of g'.got ≤ g'.most → Gained t t' (bytes_of t.format.bits block.samples) → SameFile t t' → t'.stopped ≡ false
    → ((before : List ℤ) → HasSamples t before → HasSamples t' (before ++ block.samples)) → Writes 1 g t g' t'
wrote g g' t t' block found may is least few gained same going samples = subst (λ (u : Getting). Writes 1 g t u t') (sym is) record {
  same = ends g t t' block found least same;
  longer = front_append g.got (block ∷ []);
  finds = front_append g.finds (found ∷ []);
  count_is = length-append g.got (block ∷ []);
  samples = λ before has. subst (λ (l : List ℤ). HasSamples t' l) (samples_more before g.got block) (samples (before ++ samples_of_blocks g.got) has);
  may = record {
    going = going;
    lawful = subst IsFormat (sym same.format) may.lawful;
    few = may.few;
    got = subst (λ (u : Getting). items_of u.got ≤ u.most) is few;
    written =
        let bits : ℕ = t.format.bits in let more : ℕ = length block.samples in let w : ℕ = width bits in
        let all : t'.written ≡ t.written + more * w = gained.written ∙ ap (λ (q : ℕ). t.written + q) (length-bytes_of bits block.samples) in
        let top : t.written + more * w ≤ (items_of g.got + more) * w = grown bits t.written (items_of g.got) more may.lawful.bits may.written in
        subst (λ (f : ℕ). t'.written ≤ items_of (g.got ++ block ∷ []) * width f) (ap (λ q. q.bits) (sym same.format))
        (subst (λ (q : ℕ × ℕ). q.0 ≤ q.1 * w) (λ j. (sym all j, sym (items_more g.got block) j)) top);
  };
}

-- a front of a piece behind a head and a body
cut_told : (old new : Option (List ℕ)) (head body piece : List ℕ) (n : ℕ) → IfSome old (λ bytes. bytes ≡ head ++ body) → Gains old new (take n piece) → IfSome new (λ bytes. (n : ℕ) × (bytes ≡ head ++ body ++ take n piece))
cut_told None None head body piece n was gains = tt
cut_told None (Some y) head body piece n was gains = absurd gains
cut_told (Some x) None head body piece n was gains = absurd gains
cut_told (Some x) (Some y) head body piece n was gains = (n, gains ∙ ap (λ (l : List ℕ). l ++ take n piece) was)

cut_behind : (t t' : Tape) (samples more : List ℤ) → SameFile t t' → HasSamples t samples → GainedPart t t' (bytes_of t.format.bits more) → IsCutBehind t' samples more
cut_behind t t' samples more same has part = subst (λ (f : Format). IfSome t'.bytes (λ bytes. (n : ℕ) × (bytes ≡ opening_text f ++ bytes_of f.bits samples ++ take n (bytes_of f.bits more)))) (sym same.format)
    (cut_told t.bytes t'.bytes (opening_text t.format) (bytes_of t.format.bits samples) (bytes_of t.format.bits more) part.0 has.bytes part.2)

pub broke : (g g' : Getting) (t t' : Tape) (block : RingBlock) (found : ℕ) → g' ≡ behind g block found → g.least ≤ found → SameFile t t' → t'.stopped ≡ true → GainedPart t t' (bytes_of t.format.bits block.samples)
    → ((before : List ℤ) → HasSamples t before → HasUnfinished t.format (before ++ block.samples) t'.bytes) → Fails g t g' t'
broke g g' t t' block found is least same stopped part front = subst (λ (u : Getting). Fails g t u t') (sym is) record {
  same = ends g t t' block found least same;
  longer = front_append g.got (block ∷ []);
  stopped = stopped;
  count = 0;
  whole = g.got;
  last = block;
  got_are = refl;
  count_is = omega arith;
  cut = λ before has. cut_behind t t' (before ++ samples_of_blocks g.got) block.samples same has part;
  front = λ before has. subst (λ f. HasUnfinished f (before ++ samples_of_blocks (g.got ++ block ∷ [])) t'.bytes) (sym same.format)
      (subst (λ (l : List ℤ). HasUnfinished t.format l t'.bytes) (samples_more before g.got block) (front (before ++ samples_of_blocks g.got) has));
}

pub on_err : {T E : Type 0} (result : Result T E) (P : Type 0) → P → OnErr result P
on_err (Ok x) P holds = tt
on_err (Err e) P holds = holds
