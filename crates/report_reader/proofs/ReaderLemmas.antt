-- Reading functions and the words that they read: each is the other's inverse.
--     Inverse reader words IsGood      what is read was written, and is good; what is good is read as it is written
use Rattle.std.proofs.Common.{◌≡◌, ℕ, ◌<◌, ◌^◌, Bool, true, false, List, [], ◌∷◌, ◌++◌, decimal, Option, Some, None, refl, ap, subst, ◌∙◌, arith}
use Rattle.std.specs.Prelude.{nat_lt, if◌then◌else◌}
use Rattle.std.proofs.lemmas.Bool.Decides.{nat_tests}
use Rattle.jack_types.specs.Names.{IsClientName, client_name_fault}
use Rattle.jack_types.specs.declared.names.NameFault.{NameFault}
use Rattle.check_model.specs.Checking.{IsNumber}
use Rattle.report_reader.proofs.NumberLemmas.{number_of-is, number_of-again}
use Rattle.report_reader.specs.Forms.{count_words, IsCount, IsLoss, IsThree, IsMeter}
use Rattle.report_reader.specs.Readers.{◌>>=◌, Reader, word, number_of, number, small_number, name_where, client, place, meter, count, loss}
use Rattle.report_reader.specs.declared.rows.Count.{Count}
use Rattle.report_reader.specs.declared.rows.Loss.{Loss}
use Rattle.report_reader.specs.declared.rows.MeterLine.{MeterLine}
use Rattle.report_reader.specs.declared.rows.Place.{Place}

pub bind_some : {A B : Type 0} (r : Option A) (f : A → Option B) (y : B) → (r >>= f) ≡ Some y → (x : A) × (r ≡ Some x) × (f x ≡ Some y)
bind_some (Some x) f y e = (x, refl, e)
bind_some None f y e = absurd cc

pub some_same : {A : Type 0} (x y : A) → Some x ≡ Some y → x ≡ y
some_same x y e = cc

pub record Inverse {X : Type 0} (reader : Reader X) (words : X → List (List ℕ)) (IsGood : X → Type 0) : Type 0 where
  pub takes : (ws : List (List ℕ)) (x : X) (rest : List (List ℕ)) → reader ws ≡ Some (x, rest) → (ws ≡ words x ++ rest) × IsGood x
  pub again : (x : X) (rest : List (List ℕ)) → IsGood x → reader (words x ++ rest) ≡ Some (x, rest)

-- a reader of one word
abbrev pub by_one : {X : Type 0} → (List ℕ → Option X) → Reader X
by_one of words = do
  w ← word words
  x ← of w.0
  Some (x, w.1)

pub one_word : {X : Type 0} (of : List ℕ → Option X) (text : X → List ℕ) (IsGood : X → Type 0)
    → ((w : List ℕ) (x : X) → of w ≡ Some x → (w ≡ text x) × IsGood x) → ((x : X) → IsGood x → of (text x) ≡ Some x)
    → Inverse (by_one of) (λ x. text x ∷ []) IsGood
one_word {X} of text IsGood is back = record { takes = λ ws x rest e. takes ws x rest e; again = λ x rest g. rw (back x g) refl }
  where
    takes : (ws : List (List ℕ)) (x : X) (rest : List (List ℕ)) → by_one of ws ≡ Some (x, rest) → (ws ≡ text x ∷ rest) × IsGood x
    takes [] x rest e = absurd cc
    takes (w ∷ ws) x rest e =
        let b = bind_some (of w) _ (x, rest) e in
        let r = is w b.0 b.1 in
        let same : (b.0, ws) ≡ (x, rest) = some_same (b.0, ws) (x, rest) b.2 in
        subst (λ (y : X × List (List ℕ)). (w ∷ ws ≡ text y.0 ∷ y.1) × IsGood y.0) same (ap (λ (t : List ℕ). t ∷ ws) r.0, r.1)

pub number-back : Inverse number (λ n. decimal n ∷ []) IsNumber
number-back = one_word number_of decimal IsNumber number_of-is number_of-again

name-is : (w x : List ℕ) → name_where (client_name_fault w) w ≡ Some x → (w ≡ x) × IsClientName x
name-is w x e = go (client_name_fault w) refl e
  where
    go : (o : Option NameFault) → client_name_fault w ≡ o → name_where o w ≡ Some x → (w ≡ x) × IsClientName x
    go None h k = let same : w ≡ x = some_same w x k in (same, subst IsClientName same h)
    go (Some fault) h k = absurd cc

pub client-back : Inverse client (λ name. name ∷ []) IsClientName
client-back = one_word (λ w. name_where (client_name_fault w) w) (λ name. name) IsClientName name-is (λ x g. rw g refl)

pub small-back : Inverse small_number (λ n. decimal n ∷ []) (λ n. n < 2 ^ 32)
small-back = record { takes = λ ws x rest e. takes ws x rest e; again = λ x rest g. rw (number-back.again x rest (omega (arith, g)), test x g) refl }
  where
    test : (x : ℕ) → x < 2 ^ 32 → nat_lt x (2 ^ 32) ≡ true
    test x h = grind (arith, nat_tests)

    takes : (ws : List (List ℕ)) (x : ℕ) (rest : List (List ℕ)) → small_number ws ≡ Some (x, rest) → (ws ≡ decimal x ∷ rest) × (x < 2 ^ 32)
    takes ws x rest e =
        let b = bind_some (number ws) _ (x, rest) e in
        let t = number-back.takes ws b.0.0 b.0.1 b.1 in
        go b.0 t.0 (nat_lt b.0.0 (2 ^ 32)) refl b.2
      where
        go : (y : ℕ × List (List ℕ)) → ws ≡ decimal y.0 ∷ y.1 → (k : Bool) → nat_lt y.0 (2 ^ 32) ≡ k → (if k then Some y else None) ≡ Some (x, rest) → (ws ≡ decimal x ∷ rest) × (x < 2 ^ 32)
        go y h true q f = let small : y.0 < 2 ^ 32 = grind (arith, nat_tests) in subst (λ (z : ℕ × List (List ℕ)). (ws ≡ decimal z.0 ∷ z.1) × (z.0 < 2 ^ 32)) (some_same y (x, rest) f) (h, small)
        go y h false q f = absurd cc

-- one number more in front
front : (ws a b : List (List ℕ)) (n : List ℕ) → ws ≡ n ∷ a → a ≡ b → ws ≡ n ∷ b
front ws a b n e f = e ∙ ap (λ (t : List (List ℕ)). n ∷ t) f

pub count-back : Inverse count count_words IsCount
count-back = record { takes = λ ws x rest e. takes ws x rest e; again = λ x rest g. rw (number_of-again x.file g.0, number_of-again x.blocks g.1, number_of-again x.losses g.2) refl }
  where
    takes : (ws : List (List ℕ)) (x : Count) (rest : List (List ℕ)) → count ws ≡ Some (x, rest) → (ws ≡ count_words x ++ rest) × IsCount x
    takes ws x rest e =
        let a = bind_some (number ws) _ (x, rest) e in
        let b = bind_some (number a.0.1) _ (x, rest) a.2 in
        let c = bind_some (number b.0.1) _ (x, rest) b.2 in
        let p = number-back.takes ws a.0.0 a.0.1 a.1 in
        let q = number-back.takes a.0.1 b.0.0 b.0.1 b.1 in
        let r = number-back.takes b.0.1 c.0.0 c.0.1 c.1 in
        subst (λ (y : Count × List (List ℕ)). (ws ≡ count_words y.0 ++ y.1) × IsCount y.0) (some_same (record { file = a.0.0; blocks = b.0.0; losses = c.0.0 }, c.0.1) (x, rest) c.2)
        (front ws a.0.1 (decimal b.0.0 ∷ decimal c.0.0 ∷ c.0.1) (decimal a.0.0) p.0 (front a.0.1 b.0.1 (decimal c.0.0 ∷ c.0.1) (decimal b.0.0) q.0 r.0), (p.1, q.1, r.1))

abbrev pub place_words : Place → List (List ℕ)
place_words place = decimal place.bar ∷ decimal place.beat ∷ decimal place.tick ∷ []

pub place-back : Inverse place place_words IsThree
place-back = record { takes = λ ws x rest e. takes ws x rest e; again = λ x rest g. rw (number_of-again x.bar g.0, number_of-again x.beat g.1, number_of-again x.tick g.2) refl }
  where
    takes : (ws : List (List ℕ)) (x : Place) (rest : List (List ℕ)) → place ws ≡ Some (x, rest) → (ws ≡ place_words x ++ rest) × IsThree x
    takes ws x rest e =
        let a = bind_some (number ws) _ (x, rest) e in
        let b = bind_some (number a.0.1) _ (x, rest) a.2 in
        let c = bind_some (number b.0.1) _ (x, rest) b.2 in
        let p = number-back.takes ws a.0.0 a.0.1 a.1 in
        let q = number-back.takes a.0.1 b.0.0 b.0.1 b.1 in
        let r = number-back.takes b.0.1 c.0.0 c.0.1 c.1 in
        subst (λ (y : Place × List (List ℕ)). (ws ≡ place_words y.0 ++ y.1) × IsThree y.0) (some_same (record { bar = a.0.0; beat = b.0.0; tick = c.0.0 }, c.0.1) (x, rest) c.2)
        (front ws a.0.1 (decimal b.0.0 ∷ decimal c.0.0 ∷ c.0.1) (decimal a.0.0) p.0 (front a.0.1 b.0.1 (decimal c.0.0 ∷ c.0.1) (decimal b.0.0) q.0 r.0), (p.1, q.1, r.1))

abbrev pub loss_words : Loss → List (List ℕ)
loss_words loss = decimal loss.file ∷ decimal loss.cycle ∷ decimal loss.sent ∷ decimal loss.taken ∷ []

pub loss-back : Inverse loss loss_words IsLoss
loss-back = record { takes = λ ws x rest e. takes ws x rest e; again = λ x rest g. rw (number_of-again x.file g.0, number_of-again x.cycle g.1, number_of-again x.sent g.2, number_of-again x.taken g.3) refl }
  where
    takes : (ws : List (List ℕ)) (x : Loss) (rest : List (List ℕ)) → loss ws ≡ Some (x, rest) → (ws ≡ loss_words x ++ rest) × IsLoss x
    takes ws x rest e =
        let a = bind_some (number ws) _ (x, rest) e in
        let b = bind_some (number a.0.1) _ (x, rest) a.2 in
        let c = bind_some (number b.0.1) _ (x, rest) b.2 in
        let d = bind_some (number c.0.1) _ (x, rest) c.2 in
        let p = number-back.takes ws a.0.0 a.0.1 a.1 in
        let q = number-back.takes a.0.1 b.0.0 b.0.1 b.1 in
        let r = number-back.takes b.0.1 c.0.0 c.0.1 c.1 in
        let s = number-back.takes c.0.1 d.0.0 d.0.1 d.1 in
        subst (λ (y : Loss × List (List ℕ)). (ws ≡ loss_words y.0 ++ y.1) × IsLoss y.0) (some_same (record { file = a.0.0; cycle = b.0.0; sent = c.0.0; taken = d.0.0 }, d.0.1) (x, rest) d.2) (
          front ws a.0.1 (decimal b.0.0 ∷ decimal c.0.0 ∷ decimal d.0.0 ∷ d.0.1) (decimal a.0.0) p.0
              (front a.0.1 b.0.1 (decimal c.0.0 ∷ decimal d.0.0 ∷ d.0.1) (decimal b.0.0) q.0 (front b.0.1 c.0.1 (decimal d.0.0 ∷ d.0.1) (decimal c.0.0) r.0 s.0)),
          (p.1, q.1, r.1, s.1),
        )

abbrev pub meter_words : MeterLine → List (List ℕ)
meter_words meter = meter.client ∷ decimal meter.peak ∷ []

pub meter-back : Inverse meter meter_words IsMeter
meter-back = record { takes = λ ws x rest e. takes ws x rest e; again = λ x rest g. rw (g.0, number_of-again x.peak g.1) refl }
  where
    takes : (ws : List (List ℕ)) (x : MeterLine) (rest : List (List ℕ)) → meter ws ≡ Some (x, rest) → (ws ≡ meter_words x ++ rest) × IsMeter x
    takes ws x rest e =
        let a = bind_some (client ws) _ (x, rest) e in
        let b = bind_some (number a.0.1) _ (x, rest) a.2 in
        let p = client-back.takes ws a.0.0 a.0.1 a.1 in
        let q = number-back.takes a.0.1 b.0.0 b.0.1 b.1 in
        subst (λ (y : MeterLine × List (List ℕ)). (ws ≡ meter_words y.0 ++ y.1) × IsMeter y.0) (some_same (record { client = a.0.0; peak = b.0.0 }, b.0.1) (x, rest) b.2)
        (front ws a.0.1 (decimal b.0.0 ∷ b.0.1) a.0.0 p.0 q.0, (p.1, q.1))
