-- The summary of a rehearsal that was played.
--     shape      the six lines, as one text
--     behind, few_samples      the bytes behind a header, and their samples
--     told_played      lines that are told of what was played are the summary
use Rattle.std.proofs.Common.{◌≡◌, ℕ, ◌-◌, ◌/◌, ◌<◌, ◌^◌, List, [], ◌∷◌, ◌++◌, drop, length, map, take, take_all, ℤ, ◌∙◌, ap, ap₂, arith, append_assoc}
use Rattle.std.specs.Prelude.{codes, count_by, decimal}
use Rattle.std.proofs.lemmas.List.{length-drop}
use Rattle.jack_types.specs.declared.replies.Entry.{Entry}
use Rattle.rehearsal_model.specs.Rehearsals.{greatest, is_refused, refused_in, rehearsal, summary_text, units_played}
use Rattle.session_model.specs.Explanations.{playback_text}
use Rattle.session_model.specs.Grammar.{int_text}
use Rattle.session_model.specs.Reports.{line}
use Rattle.session_model.specs.Samples.{down, samples_of, total}
use Rattle.session_model.specs.Serial.{serial}
use Rattle.wave_laws.proofs.WaveSamples.{length-samples_of}
use Rattle.rehearsals.specs.Summaries.{IsRehearsal, summary_of, units_behind}

shape : (r a nl c1 b sp rf c l3 p1 d sm e l5 l6 : List ℕ)
    → r ++ a ++ (nl ++ c1) ++ b ++ (sp ++ rf) ++ c ++ (nl ++ l3 ++ p1) ++ d ++ (sp ++ sm) ++ e ++ (nl ++ l5 ++ l6)
    ≡ (r ++ a ++ nl) ++ (c1 ++ ((b ++ sp) ++ (rf ++ c)) ++ nl) ++ l3 ++ (p1 ++ ((d ++ sp) ++ (sm ++ e)) ++ nl) ++ l5 ++ l6
shape r a nl c1 b sp rf c l3 p1 d sm e l5 l6 = simp append_assoc

of_numbers : (n refused : ℕ) (units : List ℤ) → summary_of n refused (greatest units) (total units) ≡
    line (codes "rehearse" ∷ decimal n ∷ []) ++ line (codes "calls" ∷ codes "263" ∷ codes "accepted" ∷ decimal (263 - refused) ∷ codes "refused" ∷ decimal refused ∷ [])
    ++ line (codes "cycles" ∷ codes "10000" ∷ codes "frames" ∷ codes "640000" ∷ [])
    ++ line (codes "playback" ∷ codes "2560044" ∷ codes "peak" ∷ decimal (greatest units) ∷ codes "sum" ∷ int_text (total units) ∷ [])
    ++ line (codes "record" ∷ codes "1280044" ∷ codes "blocks" ∷ codes "10000" ∷ codes "overruns" ∷ codes "0" ∷ []) ++ line (codes "end" ∷ [])
of_numbers n refused units =
    shape (codes "rehearse ") (decimal n) (10 ∷ []) (codes "calls 263 accepted ") (decimal (263 - refused)) (codes " ") (codes "refused ") (decimal refused)
    (codes "cycles 10000 frames 640000\n") (codes "playback 2560044 peak ") (decimal (greatest units)) (codes "sum ") (int_text (total units))
    (codes "record 1280044 blocks 10000 overruns 0\n") (codes "end\n")

pub told_played : (n : ℕ) (history : List Entry) (playback : List ℕ) → IsRehearsal n history playback
    → map (down 16) (samples_of 16 (drop 44 (playback_text (rehearsal n) (serial (rehearsal n).script)))) ≡ units_played n
    → summary_of n (count_by (λ (entry : Entry). is_refused entry.reply) history) (greatest (units_behind playback)) (total (units_behind playback)) ≡ summary_text n
told_played n history playback is units =
    ap₂ (λ (entries : List Entry) (numbers : List ℤ). summary_of n (count_by (λ (entry : Entry). is_refused entry.reply) entries) (greatest numbers) (total numbers)) is.history_is (ap units_behind is.playback_is ∙ units)
    ∙ of_numbers n (refused_in (rehearsal n)) (units_played n)

-- how long the file is
pub size_played : (n : ℕ) (history : List Entry) (playback : List ℕ) → IsRehearsal n history playback → length (playback_text (rehearsal n) (serial (rehearsal n).script)) ≡ 2560044 → length playback ≡ 2560044
size_played n history playback is size = ap (λ (bytes : List ℕ). length bytes) is.playback_is ∙ size

-- the bytes behind the header
pub behind : (playback : List ℕ) → take (length playback - 44) (drop 44 playback) ≡ drop 44 playback
behind playback = take_all (length playback - 44) (drop 44 playback) (let rest = length-drop 44 playback in omega (arith, rest))

pub few_samples : (xs : List ℤ) (bytes playback : List ℕ) → xs ≡ samples_of 16 bytes → bytes ≡ drop 44 playback → length playback < 2 ^ 32 → length xs < 2 ^ 40
few_samples xs bytes playback same is few =
    few_of (length xs) (length bytes) (length playback) (ap (λ (ys : List ℤ). length ys) same ∙ length-samples_of 16 bytes) (ap (λ (ys : List ℕ). length ys) is ∙ length-drop 44 playback) few
  where
    few_of : (a b c : ℕ) → a ≡ b / 2 → b ≡ c - 44 → c < 2 ^ 32 → a < 2 ^ 40
    few_of a b c half less few = omega (arith, half, less, few)
