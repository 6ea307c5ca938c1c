-- The recorders of a new session, made one after the other over the ends of their rings that get.
--     end-there      each recorder of a new driver has an end that gets
--     IsBare r, IsOver seen i r      a recorder without a file, over the end of a ring that gets
--     bare-made, over-end      it is bare, and over that end
--     AreMade formats before after count made      the first of them
--     end-next, end-is      the end that is handed out next
--     few-channels      no recorder has more than 8 channels
--     made-none, made-more      before the first, and one more
use Rattle.std.proofs.Common.{◌≡◌, ℕ, ◌+◌, ◌*◌, ◌<◌, ◌≤◌, ◌⊎◌, inl, inr, List, [], ◌∷◌, ◌++◌, length, map, take, get_or, slice_get, Option, Some, None, All, refl, sym, ◌∙◌, ap, subst, arith, length-append}
use Rattle.std.specs.Prelude.{MatchOption, set, slice_index}
use Rattle.std.proofs.lemmas.Grind.{take_at_read}
use Rattle.std.proofs.lemmas.List.{get_or-set_other, length-map, map-append}
use Rattle.std.proofs.lemmas.List.Elements.{All-push}
use Rattle.std.proofs.lemmas.Option.{same_Some}
use Rattle.std.proofs.Math.ListN.{get_or-map}
use Rattle.jack_types.specs.Recorders.{no_format}
use Rattle.jack_types.specs.declared.files.Format.{Format}
use Rattle.session_model.specs.Grammar.{IsScript}
use Rattle.session_model.specs.Scripts.{Script}
use Rattle.port_registry.proofs.PlaceLemmas.{slice_get-push}
use Rattle.driver_words.specs.Rings.{Getting, IsOpening}
use Rattle.recorder_rings.specs.Openings.{IsNew}
use Rattle.recorder_rings.specs.Sending.{Sent, consumer_at, ring_at}
use Rattle.recorder_files.specs.Recorders.{Recording}
use Rattle.session_works.specs.Drivers.{Gear}

-- an end that is there
pub opened-at : {X : Type 0} (out : Option X) (P : X → Type 0) → MatchOption out ⊥ P → (end : X) × (out ≡ Some end) × P end
opened-at None P never = absurd never
opened-at (Some end) P holds = (end, refl, holds)

-- the end of a recorder's ring that gets, with blocks of a period of its channels
pub end-there : (formats : List Format) (capacity period losses : ℕ) (seen : Sent) → IsNew formats capacity period losses seen → (i : ℕ) → i < length formats
    → (getting : Getting) × (consumer_at seen i ≡ Some getting) × IsOpening capacity (period * (get_or formats i no_format).channels) 500000000 (ring_at seen i) getting
end-there formats capacity period losses seen new i there =
    let long : length seen.channels ≡ length formats = ap length new.channels ∙ length-map formats (λ (format : Format). format.channels) in
    let channels : slice_index seen.channels i ≡ (get_or formats i no_format).channels = ap (λ cs. slice_index cs i) new.channels ∙ get_or-map (λ (format : Format). format.channels) formats i no_format in
    let opened : (getting : Getting) × (consumer_at seen i ≡ Some getting) × IsOpening capacity (period * slice_index seen.channels i) 500000000 (ring_at seen i) getting =
    opened-at (consumer_at seen i) (IsOpening capacity (period * slice_index seen.channels i) 500000000 (ring_at seen i)) (new.opened.each i (omega (arith, there, long))) in
    (opened.0, opened.1, subst (λ n. IsOpening capacity (period * n) 500000000 (ring_at seen i) opened.0) channels opened.2)

abbrev pub IsBare : Recording → Type 0
IsBare r = (r.tape ≡ None) × (r.store ≡ None) × (r.blocks ≡ 0)

-- of a recorder's ring
abbrev pub IsOver : Sent → ℕ → Recording → Type 0
IsOver seen i r = (capacity : ℕ) × (samples : ℕ) × (most : ℕ) × IsOpening capacity samples most (ring_at seen i) r.getting

pub bare-made : (r : Recording) (format : Format) (getting : Getting) → r ≡ record { format = format; getting = getting; tape = None; store = None; blocks = 0 } → IsBare r
bare-made r format getting is = (ap (λ (r : Recording). r.tape) is, ap (λ (r : Recording). r.store) is, ap (λ (r : Recording). r.blocks) is)

pub over-end : (seen : Sent) (i : ℕ) (r : Recording) (capacity samples most : ℕ) (got : Getting) → IsOpening capacity samples most (ring_at seen i) got → r.getting ≡ got → IsOver seen i r
over-end seen i r capacity samples most got opening is = (capacity, samples, most, subst (IsOpening capacity samples most (ring_at seen i)) (sym is) opening)

-- so many recorders were made, and the ends for the others are not out
pub record AreMade (formats : List Format) (before after : Gear) (count : ℕ) (made : List Recording) : Type 0 where
  pub formats_are : map (λ (r : Recording). r.format) made ≡ take count formats
  pub as_many : length made ≡ count
  pub bare : All IsBare made
  pub over : (i : ℕ) (r : Recording) → slice_get made i ≡ Some r → IsOver before.rings i r
  pub left : (i : ℕ) → count ≤ i → consumer_at after.rings i ≡ consumer_at before.rings i
  pub same : after ≡ record before { rings = record before.rings { out = after.rings.out } }

-- the end that is handed out next
pub end-next : (formats : List Format) (capacity period losses : ℕ) (before after : Gear) (count : ℕ) (made : List Recording) → IsNew formats capacity period losses before.rings → AreMade formats before after count made → count < length formats
    → (handed : Option Getting) → handed ≡ consumer_at after.rings count → (getting : Getting) × (handed ≡ Some getting) × IsOpening capacity (period * (get_or formats count no_format).channels) 500000000 (ring_at before.rings count) getting
end-next formats capacity period losses before after count made new so_far there handed handed_is =
    let end = end-there formats capacity period losses before.rings new count there in
    (end.0, handed_is ∙ so_far.left count (omega arith) ∙ end.1, end.2)

-- and where it is this one
pub end-is : (formats : List Format) (capacity period losses : ℕ) (before after : Gear) (count : ℕ) (made : List Recording) → IsNew formats capacity period losses before.rings → AreMade formats before after count made → count < length formats
    → (handed : Option Getting) (consumer : Getting) → handed ≡ consumer_at after.rings count → handed ≡ Some consumer → IsOpening capacity (period * (get_or formats count no_format).channels) 500000000 (ring_at before.rings count) consumer
end-is formats capacity period losses before after count made new so_far there handed consumer handed_is some =
    let end = end-next formats capacity period losses before after count made new so_far there handed handed_is in
    let same : end.0 ≡ consumer = same_Some end.0 consumer (sym end.1 ∙ some) in
    subst (IsOpening capacity (period * (get_or formats count no_format).channels) 500000000 (ring_at before.rings count)) same end.2

-- no recorder has more than 8 channels
pub few-channels : (script : Script) → IsScript script → (i : ℕ) → i < length script.header.recorders → (get_or script.header.recorders i no_format).channels ≤ 8
few-channels script lawful i there = (lawful.header.recorders i no_format there).channels.1

none_below : {n : ℕ} → n < 0 → ⊥
none_below p = omega arith

pub made-none : (formats : List Format) (before : Gear) → AreMade formats before before 0 []
made-none formats before = record {
  formats_are = refl;
  as_many = refl;
  bare = λ i d h. absurd (none_below h);
  over = λ i r here. absurd (nothing i r here);
  left = λ i h. refl;
  same = refl;
}
  where
    nothing : (i : ℕ) (r : Recording) → slice_get [] i ≡ Some r → ⊥
    nothing i r here = cc

pub made-more : (formats : List Format) (before after next : Gear) (count : ℕ) (made : List Recording) (one : Recording) → AreMade formats before after count made → count < length formats
    → one.format ≡ get_or formats count no_format → IsBare one → IsOver before.rings count one → next ≡ record after { rings = record after.rings { out = set after.rings.out count None } }
    → AreMade formats before next (count + 1) (made ++ one ∷ [])
made-more formats before after next count made one so_far there format bare over next_is = record {
  formats_are =
      map-append (λ (r : Recording). r.format) made (one ∷ [])
      ∙ ap (λ (front : List Format). front ++ one.format ∷ []) so_far.formats_are
      ∙ ap (λ (f : Format). take count formats ++ f ∷ []) format
      ∙ sym (take_at_read formats count no_format there).1;
  as_many = length-append made (one ∷ []) ∙ ap (λ n. n + 1) so_far.as_many;
  bare = All-push IsBare made one so_far.bare bare;
  over = λ i r here. at i r (slice_get-push made one i r here);
  left = λ i h.
      ap (λ (g : Gear). consumer_at g.rings i) next_is ∙ get_or-set_other after.rings.out count i None None (apart i h) ∙ so_far.left i (omega (arith, h));
  same = next_is ∙ ap (λ (g : Gear). record g { rings = record g.rings { out = set after.rings.out count None } }) so_far.same
      ∙ ap (λ (out : List (Option Getting)). record before { rings = record before.rings { out = out } }) (sym (ap (λ (g : Gear). g.rings.out) next_is));
}
  where
    apart : (i : ℕ) → count + 1 ≤ i → i ≡ count → ⊥
    apart i h e = omega (arith, h, e)

    at : (i : ℕ) (r : Recording) → (slice_get made i ≡ Some r) ⊎ ((i ≡ length made) × (one ≡ r)) → IsOver before.rings i r
    at i r (inl here) = so_far.over i r here
    at i r (inr last) = subst (λ n. IsOver before.rings n r) (sym (last.0 ∙ so_far.as_many)) (subst (IsOver before.rings count) last.1 over)
