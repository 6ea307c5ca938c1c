-- How a store is attached.
--     playback-put, playback-back      the driver with its file, or without it
--     may-attach-playback, may-attach      what is attached next has no store
--     next-playback, next-playback-refused, next-recorder, next-recorder-refused      what attaching it leaves
--     from-playback, from-recorder      the same, from what its one call leaves
use Rattle.std.proofs.Common.{◌≡◌, ℕ, zero, suc, ◌<◌, ◌≤◌, ◌⊎◌, inl, inr, Bool, true, false, List, [], ◌∷◌, ◌++◌, length, map, filter_map, slice_get, Option, Some, None, All, refl, sym, ◌∙◌, ap, subst, arith, true≢false}
use Rattle.std.specs.Prelude.{IfSome, set, slice_index_or}
use Rattle.std.proofs.lemmas.List.{length-map, length-set, map-set}
use Rattle.std.proofs.lemmas.List.Elements.{All-set}
use Rattle.std.proofs.lemmas.Option.{get_or_from_slice_get, slice_get_within}
use Rattle.jack_types.specs.Recorders.{no_format}
use Rattle.jack_types.specs.declared.files.Format.{Format}
use Rattle.session_model.specs.Grammar.{IsFormat as IsRecorderFormat}
use Rattle.session_model.specs.Kinds.{Sound}
use Rattle.session_model.specs.WaveFiles.{IsFormat}
use Rattle.client_kinds.specs.Scores.{Score}
use Rattle.graph_word.proofs.Fronts.{got_else, got_here}
use Rattle.session_works.proofs.PassedLemmas.{mapped_there, some_at}
use Rattle.session_works.specs.RunWords.{IsNew}
use Rattle.driver_words.specs.Rings.{Getting}
use Rattle.session_works.specs.SerialWords.{bare}
use Rattle.driver_words.specs.Tapes.{IsCut, Tape}
use Rattle.session_works.specs.Drivers.{Gear, playback_format}
use Rattle.recorder_files.specs.Recorders.{Recording, Stored, held_in, held_or, stored_of}
use Rattle.session_ends.specs.Attaching.{Refuses, Starts, StartsNext}
use Rattle.session_works.specs.Parts.{Parts, bytes_of, session_of, stores_in}
use Rattle.session_works.specs.Standings.{HasFile, IsAttaching, format_at}
use Rattle.session_works.proofs.ReadyLemmas.{written-format}

-- ---- the driver with its file, or without it

pub playback-put : (seen after now : Parts) (new : Gear) (tape : Tape) → seen ≡ now → after ≡ record seen { gear = new } → new ≡ record seen.gear { playback = new.playback } → new.playback ≡ Some tape
    → after ≡ record now { gear = record now.gear { playback = Some tape } }
playback-put seen after now new tape seen_is after_is same put =
    after_is
    ∙ ap (λ (g : Gear). record seen { gear = g }) (same ∙ ap (λ (o : Option Tape). record seen.gear { playback = o }) put)
    ∙ ap (λ (p : Parts). record p { gear = record p.gear { playback = Some tape } }) seen_is

pub playback-back : (seen after now : Parts) (new : Gear) (back : Stored) → seen ≡ now → now.gear.playback ≡ None → after ≡ record seen { gear = new; playback = Some back } → new ≡ record seen.gear { playback = new.playback } → new.playback ≡ None
    → after ≡ record now { playback = Some back }
playback-back seen after now new back seen_is now_none after_is same none =
    let seen_none : seen.gear.playback ≡ None = ap (λ (p : Parts). p.gear.playback) seen_is ∙ now_none in
    after_is
    ∙ ap (λ (g : Gear). record seen { gear = g; playback = Some back }) (same ∙ ap (λ (o : Option Tape). record seen.gear { playback = o }) (none ∙ sym seen_none))
    ∙ ap (λ (p : Parts). record p { playback = Some back }) seen_is

-- ---- lists of what there may be

-- nothing, where each place has nothing
nothing-held : {X : Type 0} (xs : List (Option X)) → ((k : ℕ) → k < length xs → slice_get xs k ≡ Some None) → filter_map (λ (held : Option X). held) xs ≡ []
nothing-held [] none = refl
nothing-held {X} (o ∷ xs) none =
    let first : o ≡ None = grind (arith, none 0 (omega arith)) in
    ap (λ (held : Option X). filter_map (λ (held : Option X). held) (held ∷ xs)) first ∙ nothing-held xs (λ k h. none (suc k) (omega (arith, h)))

-- behind the places that have something, the first that gets it has the last
added-last : {X : Type 0} (n : ℕ) (xs : List (Option X)) (x : X) → n < length xs → ((k : ℕ) → n ≤ k → k < length xs → slice_get xs k ≡ Some None)
    → filter_map (λ (held : Option X). held) (set xs n (Some x)) ≡ filter_map (λ (held : Option X). held) xs ++ x ∷ []
added-last n [] x there none = absurd (omega (arith, there))
added-last {X} zero (o ∷ xs) x there none =
    ap (λ (rest : List X). x ∷ rest) (nothing-held xs (λ k h. none (suc k) (omega arith) (omega (arith, h))))
    ∙ sym (ap (λ (front : List X). front ++ x ∷ []) (nothing-held (o ∷ xs) (λ k h. none k (omega arith) h)))
added-last {X} (suc n) (None ∷ xs) x there none = added-last n xs x (omega (arith, there)) (λ k low h. none (suc k) (omega (arith, low)) (omega (arith, h)))
added-last {X} (suc n) (Some y ∷ xs) x there none = ap (λ (rest : List X). y ∷ rest) (added-last n xs x (omega (arith, there)) (λ k low h. none (suc k) (omega (arith, low)) (omega (arith, h))))

-- what stays where one item changes
map-kept : {X Y : Type 0} (f : X → Y) (xs : List X) (i : ℕ) (x y : X) → slice_get xs i ≡ Some x → f y ≡ f x → map f (set xs i y) ≡ map f xs
map-kept f [] i x y here same = absurd cc
map-kept {X} {Y} f (z ∷ xs) zero x y here same = let is : z ≡ x = cc in ap (λ (v : Y). v ∷ map f xs) (same ∙ ap f (sym is))
map-kept {X} {Y} f (z ∷ xs) (suc i) x y here same = ap (λ (rest : List Y). f z ∷ rest) (map-kept f xs i x y here same)

same_number : (i j : ℕ) → (i ≡ j) ⊎ (j ≡ i → ⊥)
same_number zero zero = inl refl
same_number zero (suc j) = inr (λ e. omega (arith, e))
same_number (suc i) zero = inr (λ e. omega (arith, e))
same_number (suc i) (suc j) = go (same_number i j)
  where
    go : (i ≡ j) ⊎ (j ≡ i → ⊥) → (suc i ≡ suc j) ⊎ (suc j ≡ suc i → ⊥)
    go (inl e) = inl (ap suc e)
    go (inr ne) = inr (λ e. ne (omega (arith, e)))

-- ---- a session whose stores are attached

module _ (sounding : Score → Sound) (parts : Parts) (is : IsAttaching sounding parts) where
  abbrev places : List (Option Stored)
  places = held_or parts.playback parts.gear.playback ∷ map held_in parts.recorders

  as-many : length parts.recorders ≡ length parts.gear.script.header.recorders
  as-many = sym (length-map parts.recorders (λ (r : Recording). r.format)) ∙ ap length is.formats

  no-store : (i : ℕ) (r : Recording) → slice_get parts.recorders i ≡ Some r → r.store ≡ None
  no-store i r here = subst (λ (x : Recording). x.store ≡ None) (get_or_from_slice_get parts.recorders i r r here) (is.no_stores i r (slice_get_within parts.recorders i r here))

  no-tape : (i : ℕ) (r : Recording) → slice_get parts.recorders i ≡ Some r → parts.attached ≤ suc i → r.tape ≡ None
  no-tape i r here behind = (is.records i r here).none behind

  -- from the next place on there is no store
  behind : (k : ℕ) → parts.attached ≤ k → k < length places → slice_get places k ≡ Some None
  behind zero low h =
      ap (λ (o : Option Stored). Some (held_or o parts.gear.playback)) is.no_playback ∙ ap (λ (o : Option Tape). Some (held_or None o)) (is.playback.none low)
  behind (suc i) low h =
      let there : i < length parts.recorders = (let long = length-map parts.recorders held_in in omega (arith, h, long)) in
      let one = some_at parts.recorders i there in
      mapped_there held_in parts.recorders i one.0 one.1
      ∙ ap (λ (o : Option Stored). Some (held_or o one.0.tape)) (no-store i one.0 one.1)
      ∙ ap (λ (o : Option Tape). Some (held_or None o)) (no-tape i one.0 one.1 low)

  format-at : (i : ℕ) (r : Recording) → slice_get parts.recorders i ≡ Some r → slice_index_or parts.gear.script.header.recorders i no_format ≡ r.format
  format-at i r here =
      ap (λ (formats : List Format). slice_index_or formats i no_format) (sym is.formats)
      ∙ get_or_from_slice_get (map (λ (r : Recording). r.format) parts.recorders) i r.format no_format (mapped_there (λ (r : Recording). r.format) parts.recorders i r here)

  pub may-attach-playback : parts.attached ≡ 0 → parts.gear.playback ≡ None
  may-attach-playback first = is.playback.none (omega (arith, first))

  -- a recorder's format may be written
  lawful : (i : ℕ) (r : Recording) → slice_get parts.recorders i ≡ Some r → IsFormat r.format
  lawful i r here =
      let header = is.new.one.lawful.header in
      let there : i < length parts.gear.script.header.recorders = (let within = slice_get_within parts.recorders i r here in omega (arith, within, as-many)) in
      let own : IsRecorderFormat parts.gear.script.header.rate r.format = subst (IsRecorderFormat parts.gear.script.header.rate) (format-at i r here) (header.recorders i no_format there) in
      written-format parts.gear.script.header.rate r.format header.rate.0 header.rate.1 own

  pub may-attach : (i : ℕ) → parts.attached ≡ suc i → parts.attached ≤ length parts.recorders → (r : Recording) × (slice_get parts.recorders i ≡ Some r) × (r.tape ≡ None) × (r.store ≡ None) × IsFormat r.format
  may-attach i next fewer =
      let one = some_at parts.recorders i (omega (arith, next, fewer)) in
      (one.0, one.1, no-tape i one.0 one.1 (omega (arith, next)), no-store i one.0 one.1, lawful i one.0 one.1)

  module _ (given : Stored) where
    module _ (first : parts.attached ≡ 0) where
      pub next-playback : (tape : Tape) → Starts (playback_format parts.gear.script) given tape → StartsNext sounding given parts true (record parts { gear = record parts.gear { playback = Some tape } })
      next-playback tape starts = record {
        attaching = λ e. record {
          served = is.served;
          new = is.new;
          fresh = record { rings = is.fresh.rings; getting = is.fresh.getting; disks = is.fresh.disks };
          formats = is.formats;
          playback = record { begun = λ h. (tape, refl, starts.begun); none = λ h. absurd (omega (arith, h)) };
          records = λ i r here. record { begun = λ h. absurd (omega (arith, h, first)); none = λ h. no-tape i r here (omega (arith, first)) };
          no_playback = is.no_playback;
          no_stores = is.no_stores;
        };
        back = stored_of tape;
        stores = added-last 0 places (stored_of tape) (omega arith) (λ k low h. behind k (omega (arith, first)) h);
        name = starts.name;
        tells = starts.tells;
        faults = starts.faults;
        rose = λ e. absurd (true≢false e);
        cut = λ e. absurd (true≢false e);
        desk = refl;
        players = refl;
        gear = refl;
        as_many = refl;
        attached = refl;
      }

      pub next-playback-refused : (back : Stored) → Refuses (playback_format parts.gear.script) given back → StartsNext sounding given parts false (record parts { playback = Some back })
      next-playback-refused back refuses = record {
        attaching = λ e. absurd (true≢false (sym e));
        back = back;
        stores =
            ap (λ (o : Option Tape). filter_map (λ (held : Option Stored). held) (held_or (Some back) o ∷ map held_in parts.recorders)) (may-attach-playback first)
            ∙ added-last 0 places back (omega arith) (λ k low h. behind k (omega (arith, first)) h);
        name = refuses.name;
        tells = refuses.tells;
        faults = refuses.faults;
        rose = λ e. refuses.rose;
        cut = λ e. subst (λ n. IfSome back.bytes (IsCut (format_at n parts))) (sym first) refuses.cut;
        desk = refl;
        players = refl;
        gear = refl;
        as_many = refl;
        attached = refl;
      }

    module _ (i : ℕ) (next : parts.attached ≡ suc i) (r : Recording) (here : slice_get parts.recorders i ≡ Some r) where
      within : i < length parts.recorders
      within = slice_get_within parts.recorders i r here

      stores-with : (new : Recording) (back : Stored) → held_in new ≡ Some back → stores_in (record parts { recorders = set parts.recorders i new }) ≡ stores_in parts ++ back ∷ []
      stores-with new back held =
          ap (λ (rest : List (Option Stored)). filter_map (λ (held : Option Stored). held) (held_or parts.playback parts.gear.playback ∷ rest))
          (map-set held_in parts.recorders i new ∙ ap (λ (o : Option Stored). set (map held_in parts.recorders) i o) held)
          ∙ added-last (suc i) places back (let long = length-map parts.recorders held_in in omega (arith, within, long)) (λ k low h. behind k (omega (arith, next, low)) h)

      module _ (tape : Tape) (starts : Starts r.format given tape) where
        abbrev started : Recording
        started = record r { tape = Some tape }

        abbrev recorders : List Recording
        recorders = set parts.recorders i started

        getting_same : map (λ (q : Recording). q.getting) recorders ≡ map (λ (q : Recording). q.getting) parts.recorders
        getting_same = map-kept (λ (q : Recording). q.getting) parts.recorders i r started here refl

        new_still : IsNew (bare (session_of sounding (record parts { recorders = recorders })))
        new_still =
            subst (λ (getting : List Getting). IsNew (record (bare (session_of sounding parts)) { getting = getting; counts = map (λ (q : Recording). q.blocks) recorders; record_files = map (λ (q : Recording). bytes_of q.store) recorders })) (sym getting_same)
            (subst (λ (counts : List ℕ). IsNew (record (bare (session_of sounding parts)) { counts = counts; record_files = map (λ (q : Recording). bytes_of q.store) recorders })) (sym (map-kept (λ (q : Recording). q.blocks) parts.recorders i r started here refl))
            (subst (λ (files : List (Option (List ℕ))). IsNew (record (bare (session_of sounding parts)) { record_files = files })) (sym (map-kept (λ (q : Recording). bytes_of q.store) parts.recorders i r started here refl)) is.new))

        -- a recorder behind it
        file-at : (j : ℕ) (q : Recording) → slice_get recorders j ≡ Some q → (i ≡ j) ⊎ (j ≡ i → ⊥) → HasFile (suc j) (suc parts.attached) q.format q.tape
        file-at j q there (inl e) =
            let is_started : started ≡ q = (let same = sym (got_here parts.recorders i started within) ∙ ap (slice_get recorders) e ∙ there in cc) in
            subst (λ (x : Recording). HasFile (suc j) (suc parts.attached) x.format x.tape) is_started
            (record { begun = λ h. (tape, refl, starts.begun); none = λ h. absurd (omega (arith, h, next, e)) })
        file-at j q there (inr other) =
            let before : HasFile (suc j) parts.attached q.format q.tape = is.records j q (sym (got_else parts.recorders i j started other) ∙ there) in
            record {
              begun = λ h. before.begun (apart h);
              none = λ h. before.none (omega (arith, h));
            }
          where
            apart : suc j < suc parts.attached → suc j < parts.attached
            apart h = go (same_number i j)
              where
                go : (i ≡ j) ⊎ (j ≡ i → ⊥) → suc j < parts.attached
                go (inl e) = absurd (other (sym e))
                go (inr ne) = omega (arith, h, next, ne)

        pub next-recorder : StartsNext sounding given parts true (record parts { recorders = recorders })
        next-recorder = record {
          attaching = λ e. record {
            served = is.served;
            new = new_still;
            fresh = record { rings = is.fresh.rings; getting = subst (All (λ (got : Getting). got.least ≡ 0)) (sym getting_same) is.fresh.getting; disks = is.fresh.disks };
            formats = map-kept (λ (q : Recording). q.format) parts.recorders i r started here refl ∙ is.formats;
            playback = record { begun = λ h. is.playback.begun (omega (arith, next)); none = λ h. absurd (omega (arith, h)) };
            records = λ j q there. file-at j q there (same_number i j);
            no_playback = is.no_playback;
            no_stores = All-set (λ (q : Recording). q.store ≡ None) parts.recorders i started (no-store i r here) is.no_stores;
          };
          back = stored_of tape;
          stores = stores-with started (stored_of tape) refl;
          name = starts.name;
          tells = starts.tells;
          faults = starts.faults;
          rose = λ e. absurd (true≢false e);
          cut = λ e. absurd (true≢false e);
          desk = refl;
          players = refl;
          gear = refl;
          as_many = length-set parts.recorders i started;
          attached = refl;
        }

      pub next-recorder-refused : (back : Stored) → Refuses r.format given back → StartsNext sounding given parts false (record parts { recorders = set parts.recorders i (record r { store = Some back }) })
      next-recorder-refused back refuses = record {
        attaching = λ e. absurd (true≢false (sym e));
        back = back;
        stores = stores-with (record r { store = Some back }) back (ap (λ (o : Option Tape). held_or (Some back) o) (no-tape i r here (omega (arith, next))));
        name = refuses.name;
        tells = refuses.tells;
        faults = refuses.faults;
        rose = λ e. refuses.rose;
        cut = λ e. subst (λ n. IfSome back.bytes (IsCut (format_at n parts))) (sym next) (subst (λ f. IfSome back.bytes (IsCut f)) (sym (format-at i r here)) refuses.cut);
        desk = refl;
        players = refl;
        gear = refl;
        as_many = length-set parts.recorders i (record r { store = Some back });
        attached = refl;
      }

-- ---- what attaching at the next place leaves, from what its one call leaves

pub from-playback : (sounding : Score → Sound) (given : Stored) (parts : Parts) → IsAttaching sounding parts → parts.attached ≡ 0 → (begun : Bool) (after : Parts)
    → (begun ≡ true → (tape : Tape) × Starts (playback_format parts.gear.script) given tape × (after ≡ record parts { gear = record parts.gear { playback = Some tape } }))
    → (begun ≡ false → (back : Stored) × Refuses (playback_format parts.gear.script) given back × (after ≡ record parts { playback = Some back }))
    → StartsNext sounding given parts begun after
from-playback sounding given parts is first true after put_in kept = let put = put_in refl in subst (StartsNext sounding given parts true) (sym put.2) (next-playback sounding parts is given first put.0 put.1)
from-playback sounding given parts is first false after put_in kept = let back = kept refl in subst (StartsNext sounding given parts false) (sym back.2) (next-playback-refused sounding parts is given first back.0 back.1)

pub from-recorder : (sounding : Score → Sound) (given : Stored) (parts : Parts) → IsAttaching sounding parts → (i : ℕ) → parts.attached ≡ suc i → parts.attached ≤ length parts.recorders → (begun : Bool) (after : Parts)
    → (begun ≡ true → (r : Recording) → slice_get parts.recorders i ≡ Some r → (tape : Tape) × Starts r.format given tape × (after ≡ record parts { recorders = set parts.recorders i (record r { tape = Some tape }) }))
    → (begun ≡ false → (r : Recording) → slice_get parts.recorders i ≡ Some r → (back : Stored) × Refuses r.format given back × (after ≡ record parts { recorders = set parts.recorders i (record r { store = Some back }) }))
    → StartsNext sounding given parts begun after
from-recorder sounding given parts is i next fewer true after put_in kept =
    let one = may-attach sounding parts is i next fewer in
    let put = put_in refl one.0 one.1 in
    subst (StartsNext sounding given parts true) (sym put.2) (next-recorder sounding parts is given i next one.0 one.1 put.0 put.1)
from-recorder sounding given parts is i next fewer false after put_in kept =
    let one = may-attach sounding parts is i next fewer in
    let back = kept refl one.0 one.1 in
    subst (StartsNext sounding given parts false) (sym back.2) (next-recorder-refused sounding parts is given i next one.0 one.1 back.0 back.1)
