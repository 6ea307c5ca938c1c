-- Calls and cycles: reading functions and the words that they read.
use Rattle.std.proofs.Common.{◌≡◌, ℕ, Bool, true, false, cond, List, [], ◌∷◌, ◌++◌, decimal, codes, find, Option, Some, None, refl, ap, ap₂, subst, ◌∙◌, arith}
use Rattle.std.specs.Prelude.{◌==◌, if◌then◌else◌}
use Rattle.std.specs.Str.{bytes_eq}
use Rattle.std.proofs.lemmas.Bool.Decides.{nat_tests}
use Rattle.std.proofs.lemmas.Slice.Eq.{bytes_eq-Decides}
use Rattle.jack_types.specs.Refusals.{refusal_number, refusal_name}
use Rattle.jack_types.specs.declared.moments.TransportState.{TransportState}
use Rattle.jack_types.specs.declared.moments.TransportState.TheVariants.{Stopped, Rolling, Starting}
use Rattle.jack_types.specs.declared.replies.Refusal.{Refusal}
use Rattle.jack_types.specs.declared.replies.Refusal.TheVariants.{NoClient, NoPort, IsOpen, IsSystem, NameTaken, AlreadyActive, NotActive, ClientsFull, PortsFull, NoSource, NoDestination, NotOutput, NotInput, TypeDiffers, Inactive, Exists, Full, NotConnected, Busy, NotMaster, InUse}
use Rattle.session_model.specs.Reports.{state_name}
use Rattle.check_model.specs.Checking.{IsNumber}
use Rattle.report_reader.proofs.NumberLemmas.{number_of-again}
use Rattle.report_reader.proofs.ReaderLemmas.{bind_some, some_same, Inverse, number-back, small-back, one_word}
use Rattle.report_reader.specs.Forms.{IsReply, IsCall}
use Rattle.report_reader.specs.Readers.{◌>>=◌, word, number, small_number, refusals, refusal_of, refusal, accepted, refused, latency, reply, call, state_of, state}
use Rattle.report_reader.specs.declared.rows.CallLine.{CallLine}
use Rattle.report_reader.specs.declared.rows.ReplyLine.{ReplyLine}
use Rattle.report_reader.specs.declared.rows.ReplyLine.TheVariants.{Accepted, Refused, Latency}

pub same_word : (w v : List ℕ) → bytes_eq w v ≡ true → w ≡ v
same_word w v e = (bytes_eq-Decides w v).0 e

pub word_same : (w : List ℕ) → bytes_eq w w ≡ true
word_same w = (bytes_eq-Decides w w).1 refl

pub word-is : (ws : List (List ℕ)) (y : List ℕ × List (List ℕ)) → word ws ≡ Some y → ws ≡ y.0 ∷ y.1
word-is [] y e = absurd cc
word-is (w ∷ ws) y e = ap (λ (z : List ℕ × List (List ℕ)). z.0 ∷ z.1) (some_same (w, ws) y e)

find-is : (p : Refusal → Bool) (xs : List Refusal) (r : Refusal) → find p xs ≡ Some r → p r ≡ true
find-is p [] r e = absurd cc
find-is p (x ∷ xs) r e = go (p x) refl e (find-is p xs r)
  where
    go : (b : Bool) → p x ≡ b → cond b (Some x) (find p xs) ≡ Some r → (find p xs ≡ Some r → p r ≡ true) → p r ≡ true
    go true h k later = subst (λ (y : Refusal). p y ≡ true) (some_same x r k) h
    go false h k later = later k

refusal-number : (n : ℕ) (r : Refusal) → refusal_of n ≡ Some r → n ≡ refusal_number r
refusal-number n r e = let h : (refusal_number r == n) ≡ true = find-is (λ refusal. refusal_number refusal == n) refusals r e in grind (arith, nat_tests)

refusal-again : (r : Refusal) → (refusal_of (refusal_number r) ≡ Some r) × IsNumber (refusal_number r)
refusal-again NoClient = (refl, omega arith)
refusal-again NoPort = (refl, omega arith)
refusal-again IsOpen = (refl, omega arith)
refusal-again IsSystem = (refl, omega arith)
refusal-again NameTaken = (refl, omega arith)
refusal-again AlreadyActive = (refl, omega arith)
refusal-again NotActive = (refl, omega arith)
refusal-again ClientsFull = (refl, omega arith)
refusal-again PortsFull = (refl, omega arith)
refusal-again NoSource = (refl, omega arith)
refusal-again NoDestination = (refl, omega arith)
refusal-again NotOutput = (refl, omega arith)
refusal-again NotInput = (refl, omega arith)
refusal-again TypeDiffers = (refl, omega arith)
refusal-again Inactive = (refl, omega arith)
refusal-again Exists = (refl, omega arith)
refusal-again Full = (refl, omega arith)
refusal-again NotConnected = (refl, omega arith)
refusal-again Busy = (refl, omega arith)
refusal-again NotMaster = (refl, omega arith)
refusal-again InUse = (refl, omega arith)

abbrev picked : Bool → Refusal → List (List ℕ) → Option (Refusal × List (List ℕ))
picked k r vs = if k then Some (r, vs) else None

pub refusal-back : Inverse refusal (λ r. decimal (refusal_number r) ∷ refusal_name r ∷ []) (λ r. Unit {0})
refusal-back = record { takes = λ ws x rest e. takes ws x rest e; again = λ x rest g. rw (number_of-again (refusal_number x) (refusal-again x).1, (refusal-again x).0, word_same (refusal_name x)) refl }
  where
    takes : (ws : List (List ℕ)) (x : Refusal) (rest : List (List ℕ)) → refusal ws ≡ Some (x, rest) → (ws ≡ decimal (refusal_number x) ∷ refusal_name x ∷ rest) × Unit {0}
    takes ws x rest e =
        let a = bind_some (number ws) _ (x, rest) e in
        let b = bind_some (refusal_of a.0.0) _ (x, rest) a.2 in
        let c = bind_some (word a.0.1) _ (x, rest) b.2 in
        (go a.0.0 a.0.1 b.0 c.0.0 c.0.1 (number-back.takes ws a.0.0 a.0.1 a.1).0 (refusal-number a.0.0 b.0 b.1) (word-is a.0.1 c.0 c.1) (bytes_eq c.0.0 (refusal_name b.0)) refl c.2, tt)
      where
        go : (n : ℕ) (us : List (List ℕ)) (r : Refusal) (w : List ℕ) (vs : List (List ℕ)) → ws ≡ decimal n ∷ us → n ≡ refusal_number r → us ≡ w ∷ vs → (k : Bool) → bytes_eq w (refusal_name r) ≡ k → picked k r vs ≡ Some (x, rest)
            → ws ≡ decimal (refusal_number x) ∷ refusal_name x ∷ rest
        go n us r w vs p q s true h f =
            subst (λ (z : Refusal × List (List ℕ)). ws ≡ decimal (refusal_number z.0) ∷ refusal_name z.0 ∷ z.1) (some_same (r, vs) (x, rest) f)
            (p ∙ ap₂ (λ (m : ℕ) (t : List (List ℕ)). decimal m ∷ t) q (s ∙ ap (λ (v : List ℕ). v ∷ vs) (same_word w (refusal_name r) h)))
        go n us r w vs p q s false h f = absurd cc

abbrev pub reply_of_words : ReplyLine → List (List ℕ)
reply_of_words (Accepted n) = codes "ok" ∷ decimal n ∷ []
reply_of_words (Refused r) = codes "refused" ∷ decimal (refusal_number r) ∷ refusal_name r ∷ []
reply_of_words (Latency min max) = codes "latency" ∷ decimal min ∷ decimal max ∷ []

accepted-takes : (w : List ℕ) (ws : List (List ℕ)) (x : ReplyLine) (rest : List (List ℕ)) → w ≡ codes "ok" → accepted ws ≡ Some (x, rest) → (w ∷ ws ≡ reply_of_words x ++ rest) × IsReply x
accepted-takes w ws x rest h e =
    let a = bind_some (small_number ws) _ (x, rest) e in
    let p = small-back.takes ws a.0.0 a.0.1 a.1 in
    subst (λ (z : ReplyLine × List (List ℕ)). (w ∷ ws ≡ reply_of_words z.0 ++ z.1) × IsReply z.0) (some_same (Accepted a.0.0, a.0.1) (x, rest) a.2) (ap₂ (λ (v : List ℕ) (t : List (List ℕ)). v ∷ t) h p.0, p.1)

refused-takes : (w : List ℕ) (ws : List (List ℕ)) (x : ReplyLine) (rest : List (List ℕ)) → w ≡ codes "refused" → refused ws ≡ Some (x, rest) → (w ∷ ws ≡ reply_of_words x ++ rest) × IsReply x
refused-takes w ws x rest h e =
    let a = bind_some (refusal ws) _ (x, rest) e in
    let p = refusal-back.takes ws a.0.0 a.0.1 a.1 in
    subst (λ (z : ReplyLine × List (List ℕ)). (w ∷ ws ≡ reply_of_words z.0 ++ z.1) × IsReply z.0) (some_same (Refused a.0.0, a.0.1) (x, rest) a.2) (ap₂ (λ (v : List ℕ) (t : List (List ℕ)). v ∷ t) h p.0, tt)

latency-takes : (w : List ℕ) (ws : List (List ℕ)) (x : ReplyLine) (rest : List (List ℕ)) → w ≡ codes "latency" → latency ws ≡ Some (x, rest) → (w ∷ ws ≡ reply_of_words x ++ rest) × IsReply x
latency-takes w ws x rest h e =
    let a = bind_some (number ws) _ (x, rest) e in
    let b = bind_some (number a.0.1) _ (x, rest) a.2 in
    let p = number-back.takes ws a.0.0 a.0.1 a.1 in
    let q = number-back.takes a.0.1 b.0.0 b.0.1 b.1 in
    subst (λ (z : ReplyLine × List (List ℕ)). (w ∷ ws ≡ reply_of_words z.0 ++ z.1) × IsReply z.0) (some_same (Latency a.0.0 b.0.0, b.0.1) (x, rest) b.2)
    (ap₂ (λ (v : List ℕ) (t : List (List ℕ)). v ∷ t) h (p.0 ∙ ap (λ (t : List (List ℕ)). decimal a.0.0 ∷ t) q.0), (p.1, q.1))

pub reply-back : Inverse reply reply_of_words IsReply
reply-back = record { takes = λ ws x rest e. takes ws x rest e; again = again }
  where
    takes : (ws : List (List ℕ)) (x : ReplyLine) (rest : List (List ℕ)) → reply ws ≡ Some (x, rest) → (ws ≡ reply_of_words x ++ rest) × IsReply x
    takes [] x rest e = absurd cc
    takes (w ∷ ws) x rest e = go (bytes_eq w (codes "ok")) refl (bytes_eq w (codes "refused")) refl (bytes_eq w (codes "latency")) refl e
      where
        go : (a : Bool) → bytes_eq w (codes "ok") ≡ a → (b : Bool) → bytes_eq w (codes "refused") ≡ b → (c : Bool) → bytes_eq w (codes "latency") ≡ c
            → (if a then accepted ws else if b then refused ws else if c then latency ws else None) ≡ Some (x, rest) → (w ∷ ws ≡ reply_of_words x ++ rest) × IsReply x
        go true h b k c l f = accepted-takes w ws x rest (same_word w (codes "ok") h) f
        go false h true k c l f = refused-takes w ws x rest (same_word w (codes "refused") k) f
        go false h false k true l f = latency-takes w ws x rest (same_word w (codes "latency") l) f
        go false h false k false l f = absurd cc

    again : (x : ReplyLine) (rest : List (List ℕ)) → IsReply x → reply (reply_of_words x ++ rest) ≡ Some (x, rest)
    again (Accepted n) rest g = ap (λ o. o >>= λ n. Some (Accepted n.0, n.1)) (small-back.again n rest g)
    again (Refused r) rest g = ap (λ o. o >>= λ r. Some (Refused r.0, r.1)) (refusal-back.again r rest tt)
    again (Latency min max) rest g = rw (number_of-again min g.0, number_of-again max g.1) refl

abbrev pub call_words : CallLine → List (List ℕ)
call_words call = decimal call.lane ∷ decimal call.index ∷ reply_of_words call.reply

pub call-back : Inverse call call_words IsCall
call-back = record { takes = λ ws x rest e. takes ws x rest e; again = λ x rest g. rw (number_of-again x.lane g.0, number_of-again x.index g.1, reply-back.again x.reply rest g.2) refl }
  where
    takes : (ws : List (List ℕ)) (x : CallLine) (rest : List (List ℕ)) → call ws ≡ Some (x, rest) → (ws ≡ call_words x ++ rest) × IsCall x
    takes ws x rest e =
        let a = bind_some (number ws) _ (x, rest) e in
        let b = bind_some (number a.0.1) _ (x, rest) a.2 in
        let c = bind_some (reply b.0.1) _ (x, rest) b.2 in
        let p = number-back.takes ws a.0.0 a.0.1 a.1 in
        let q = number-back.takes a.0.1 b.0.0 b.0.1 b.1 in
        let r = reply-back.takes b.0.1 c.0.0 c.0.1 c.1 in
        subst (λ (y : CallLine × List (List ℕ)). (ws ≡ call_words y.0 ++ y.1) × IsCall y.0) (some_same (record { lane = a.0.0; index = b.0.0; reply = c.0.0 }, c.0.1) (x, rest) c.2)
        (p.0 ∙ ap (λ (t : List (List ℕ)). decimal a.0.0 ∷ t) (q.0 ∙ ap (λ (t : List (List ℕ)). decimal b.0.0 ∷ t) r.0), (p.1, q.1, r.1))

state-is : (w : List ℕ) (s : TransportState) → state_of w ≡ Some s → (w ≡ state_name s) × Unit {0}
state-is w s e = (go (bytes_eq w (codes "stopped")) refl (bytes_eq w (codes "starting")) refl (bytes_eq w (codes "rolling")) refl e, tt)
  where
    go : (a : Bool) → bytes_eq w (codes "stopped") ≡ a → (b : Bool) → bytes_eq w (codes "starting") ≡ b → (c : Bool) → bytes_eq w (codes "rolling") ≡ c
        → (if a then Some Stopped else if b then Some Starting else if c then Some Rolling else None) ≡ Some s → w ≡ state_name s
    go true h b k c l f = same_word w (codes "stopped") h ∙ ap state_name (some_same Stopped s f)
    go false h true k c l f = same_word w (codes "starting") k ∙ ap state_name (some_same Starting s f)
    go false h false k true l f = same_word w (codes "rolling") l ∙ ap state_name (some_same Rolling s f)
    go false h false k false l f = absurd cc

state-again : (s : TransportState) → Unit {0} → state_of (state_name s) ≡ Some s
state-again Stopped g = refl
state-again Starting g = refl
state-again Rolling g = refl

pub state-back : Inverse state (λ s. state_name s ∷ []) (λ s. Unit {0})
state-back = one_word state_of state_name (λ s. Unit {0}) state-is state-again
