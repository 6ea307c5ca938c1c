-- There is one first wrong part at most, and none where all is right.
--     one-first_wrong, none-wrong
use Rattle.std.proofs.Common.{◌≡◌, ℕ, zero, suc, ◌<◌, ◌≤◌, Bool, true, false, nat_lt, ◌⊎◌, inl, inr, List, take, slice_get, refl, sym, ◌∙◌, ap, subst, arith}
use Rattle.std.proofs.lemmas.Bool.Decides.{nat_tests}
use Rattle.jack_types.specs.declared.replies.Part.{Part}
use Rattle.jack_types.specs.declared.replies.Part.TheVariants.{Report as WrongReport, Call as WrongCall, Cycle as WrongCycle, Meter as WrongMeter, Midi as WrongMidi, Recorder as WrongRecorder, Overrun as WrongOverrun, Disk as WrongDisk, Underrun as WrongUnderrun, Record as WrongRecord, Playback as WrongPlayback}
use Rattle.jack_types.specs.declared.replies.Row.{Row}
use Rattle.session_model.specs.Explanations.{Given, Written}
use Rattle.session_model.specs.Grammar.{IsScript}
use Rattle.session_model.specs.Reports.{Report, report_lines}
use Rattle.session_model.specs.Scripts.{Script}
use Rattle.check_model.specs.Checking.{IsRight, IsForm, IsFirstNot, AllRight, DifferAt, IsPlaceIn, IsWrongPart, IsWrongLine, IsFirstWrong, BeginsReport, counted_number, ended_lines}
use Rattle.check_laws.proofs.PlaceLists.{slice-take, some-same, take-twice}
use Rattle.check_laws.proofs.SameLemmas.{Same, Form-same}
use Rattle.check_laws.proofs.SameRight.{IsRight-same, IsPlace-same}

abbrev Three : ℕ → ℕ → Type 0
Three m n = (m < n) ⊎ ((m ≡ n) ⊎ (n < m))

three : (m n : ℕ) → Three m n
three m n = go (nat_lt m n) (nat_lt n m) refl refl
  where
    go : (s t : Bool) → nat_lt m n ≡ s → nat_lt n m ≡ t → Three m n
    go true t e f = inl (grind (arith, nat_tests))
    go false true e f = inr (inr (grind (arith, nat_tests)))
    go false false e f = inr (inl (grind (arith, nat_tests)))

Begins-less : (script : Script) (bytes : List ℕ) (m n : ℕ) → m ≤ n → BeginsReport script bytes n → BeginsReport script bytes m
Begins-less script bytes m n h b =
    (b.0, b.1, sym (take-twice m n (ended_lines bytes) h) ∙ ap (take m) b.2 ∙ take-twice m n (report_lines b.0) h)

Begins-whole : (script : Script) (bytes : List ℕ) (report : Report) → IsForm script report → ended_lines bytes ≡ report_lines report → (n : ℕ) → BeginsReport script bytes n
Begins-whole script bytes report form text n = (report, form, ap (take n) text)

no_wrong_line : (script : Script) (bytes : List ℕ) → ((n : ℕ) → BeginsReport script bytes n) → (n : ℕ) → IsWrongLine script bytes n → ⊥
no_wrong_line script bytes begins zero w = w
no_wrong_line script bytes begins (suc n) w = w.1 (begins (suc n))

line-after : (script : Script) (bytes : List ℕ) (m n : ℕ) → m < n → IsWrongLine script bytes m → IsWrongLine script bytes n → ⊥
line-after script bytes zero n h w v = w
line-after script bytes (suc m) zero h w v = v
line-after script bytes (suc m) (suc n) h w v = w.1 (Begins-less script bytes (suc m) n (omega (arith, h)) v.0)

line-same : (script : Script) (bytes : List ℕ) (m n : ℕ) → IsWrongLine script bytes m → IsWrongLine script bytes n → m ≡ n
line-same script bytes m n w v = go (three m n)
  where
    go : Three m n → m ≡ n
    go (inl h) = absurd (line-after script bytes m n h w v)
    go (inr (inl e)) = e
    go (inr (inr h)) = absurd (line-after script bytes n m h v w)

first-same : (Right : ℕ → Type 0) (m n : ℕ) → IsFirstNot Right m → IsFirstNot Right n → m ≡ n
first-same Right m n w v = go (three m n)
  where
    go : Three m n → m ≡ n
    go (inl h) = absurd (w.2 (v.1 m w.0 h))
    go (inr (inl e)) = e
    go (inr (inr h)) = absurd (v.2 (w.1 n v.0 h))

differ-same : (text other : List ℕ) (p q : ℕ) → DifferAt text other p → DifferAt text other q → p ≡ q
differ-same text other p q w v = go (three p q)
  where
    before : (m n : ℕ) → m < n → DifferAt text other m → DifferAt text other n → ⊥
    before m n h x y = x.differ (sym (slice-take text n m h) ∙ ap (λ zs. slice_get zs m) y.same_before ∙ slice-take other n m h)

    go : Three p q → p ≡ q
    go (inl h) = absurd (before p q h w v)
    go (inr (inl e)) = e
    go (inr (inr h)) = absurd (before q p h v w)

counted-same : (part : Part) (m n : ℕ) → counted_number part m ≡ counted_number part n → m ≡ n
counted-same WrongReport m n e = e
counted-same WrongCall m n e = e
counted-same WrongCycle m n e = e
counted-same WrongMeter m n e = e
counted-same WrongMidi m n e = e
counted-same WrongRecorder m n e = e
counted-same WrongOverrun m n e = e
counted-same WrongDisk m n e = e
counted-same WrongUnderrun m n e = e
counted-same WrongRecord m n e = omega (arith, e)
counted-same WrongPlayback m n e = omega (arith, e)

place-same : (given : Given) (written : Written) (report : Report) (part : Part) (number p q : ℕ) → IsPlaceIn given written report part number p → IsPlaceIn given written report part number q → p ≡ q
place-same given written report WrongReport number p q w v = w ∙ sym v
place-same given written report WrongCall number p q w v = w ∙ sym v
place-same given written report WrongCycle number p q w v = w ∙ sym v
place-same given written report WrongMeter number p q w v = w ∙ sym v
place-same given written report WrongMidi number p q w v = w ∙ sym v
place-same given written report WrongRecorder number p q w v = w ∙ sym v
place-same given written report WrongOverrun number p q w v = w ∙ sym v
place-same given written report WrongDisk number p q w v = w ∙ sym v
place-same given written report WrongUnderrun number p q w v = w ∙ sym v
place-same given written report WrongRecord number p q w v = differ-same _ _ p q w v
place-same given written report WrongPlayback number p q w v = differ-same _ _ p q w v

-- a first wrong part against a report that says the same
module _ (given : Given) (written : Written) (a b : Report) (s : Same a b) where
  not-right : (part : Part) (n : ℕ) → IsFirstNot (IsRight given written b part) n → AllRight (IsRight given written a part) → ⊥
  not-right part n first all = first.2 (IsRight-same given written a b s part n (all n first.0))

module _ (given : Given) (written : Written) (script_is : IsScript given.script) where
  text-same : (a b : Report) → IsForm given.script a → IsForm given.script b → ended_lines written.report ≡ report_lines a → ended_lines written.report ≡ report_lines b → Same a b
  text-same a b h k p q = Form-same given.script script_is a b h k (sym p ∙ q)

  -- where all is right, nothing is the first wrong part
  pub none-wrong : (report : Report) → IsForm given.script report → ended_lines written.report ≡ report_lines report → ((part : Part) → AllRight (IsRight given written report part)) → (row : Row) → IsFirstWrong given written row → ⊥
  none-wrong report form text right row (inl w) = no_wrong_line given.script written.report (Begins-whole given.script written.report report form text) row.number w.1
  none-wrong report form text right row (inr (other, i, w)) =
      not-right given written report other (text-same report other form w.form text w.text) row.what (counted_number row.what row.number) w.first (right row.what)

  earlier : (r t : Row) (a b : Report) (i j : ℕ) → IsWrongPart given written r a i → IsWrongPart given written t b j → i < j → ⊥
  earlier r t a b i j w v h =
      not-right given written b a (text-same b a v.form w.form v.text w.text) r.what (counted_number r.what r.number) w.first (v.before i r.what h w.part)

  same-part : (r t : Row) (a b : Report) (i : ℕ) → IsWrongPart given written r a i → IsWrongPart given written t b i → r ≡ t
  same-part r t a b i w v =
      let s : Same b a = text-same b a v.form w.form v.text w.text in
      let what : r.what ≡ t.what = some-same r.what t.what (sym w.part ∙ v.part) in
      let back : Part → ℕ → Type 0 = λ part n. IsFirstNot (IsRight given written b part) (counted_number part n) in
      let there : IsFirstNot (IsRight given written b r.what) (counted_number r.what t.number) = subst (λ part. back part t.number) (sym what) v.first in
      let here : IsFirstNot (IsRight given written a r.what) (counted_number r.what t.number) =
      (there.0, (λ m p q. IsRight-same given written b a s r.what m (there.1 m p q)), (λ h. there.2 (IsRight-same given written a b (text-same a b w.form v.form w.text v.text) r.what (counted_number r.what t.number) h))) in
      let number : r.number ≡ t.number = counted-same r.what r.number t.number (first-same (IsRight given written a r.what) (counted_number r.what r.number) (counted_number r.what t.number) w.first here) in
      let moved : IsPlaceIn given written b r.what r.number t.place = subst (λ n. IsPlaceIn given written b r.what n t.place) (sym number) (subst (λ part. IsPlaceIn given written b part t.number t.place) (sym what) v.place) in
      let place : r.place ≡ t.place = place-same given written a r.what r.number r.place t.place w.place (IsPlace-same given written b a s r.what r.number t.place moved) in
      (λ k. record { what = what k; number = number k; place = place k })

  pub one-first_wrong : (r t : Row) → IsFirstWrong given written r → IsFirstWrong given written t → r ≡ t
  one-first_wrong r t (inl w) (inl v) =
      let what : r.what ≡ t.what = w.0 ∙ sym v.0 in
      let number : r.number ≡ t.number = line-same given.script written.report r.number t.number w.1 v.1 in
      let place : r.place ≡ t.place = w.2 ∙ sym v.2 in
      (λ k. record { what = what k; number = number k; place = place k })
  one-first_wrong r t (inl w) (inr (b, j, v)) = absurd (no_wrong_line given.script written.report (Begins-whole given.script written.report b v.form v.text) r.number w.1)
  one-first_wrong r t (inr (a, i, w)) (inl v) = absurd (no_wrong_line given.script written.report (Begins-whole given.script written.report a w.form w.text) t.number v.1)
  one-first_wrong r t (inr (a, i, w)) (inr (b, j, v)) = go (three i j)
    where
      go : Three i j → r ≡ t
      go (inl h) = absurd (earlier r t a b i j w v h)
      go (inr (inl e)) = same-part r t a b i w (subst (λ n. IsWrongPart given written t b n) (sym e) v)
      go (inr (inr h)) = absurd (earlier t r b a j i v w h)
