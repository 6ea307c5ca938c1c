-- Places in lists, and the disks of a session by their places.
--     All-places, at-place      what holds of each item, told by its place
--     map-places      two lists of which each place has the same
--     as-many, long      as many players as ends that get, and as many as the script has disks
--     both-of, both-by      a disk by its player, and by its end that gets
--     Stepped, stepped      the disk before a step, and the step
use Rattle.std.proofs.Common.{◌≡◌, ℕ, suc, List, [], ◌∷◌, length, map, get_or, slice_get, All, Some, refl, sym, ◌∙◌, ap, ap₂, subst, arith, pred}
use Rattle.std.proofs.lemmas.Option.{get_or_from_slice_get, slice_get-get_or, slice_get_within}
use Rattle.session_model.specs.Scripts.{Script}
use Rattle.driver_words.specs.Rings.{Getting}
use Rattle.disk_player.specs.Playing.{Playing}
use Rattle.driver_laws.proofs.PlaceLemmas.{there_too}
use Rattle.run_laws.specs.Sessions.{IsDisk, IsOne, Session}
use Rattle.disk_runs.specs.Readings.{EachDisk}

pub All-places : {X : Type 0} (P : X → Type 0) (xs : List X) → ((k : ℕ) (x : X) → slice_get xs k ≡ Some x → P x) → All P xs
All-places P xs each k d low = each k (get_or xs k d) (slice_get-get_or xs k d low)

pub at-place : {X : Type 0} (P : X → Type 0) (xs : List X) (k : ℕ) (x : X) → All P xs → slice_get xs k ≡ Some x → P x
at-place P xs k x all here = subst P (get_or_from_slice_get xs k x x here) (all k x (slice_get_within xs k x here))

pub map-places : {X Y Z : Type 0} (f : X → Z) (g : Y → Z) (xs : List X) (ys : List Y) → length xs ≡ length ys
    → ((k : ℕ) (x : X) (y : Y) → slice_get xs k ≡ Some x → slice_get ys k ≡ Some y → f x ≡ g y) → map f xs ≡ map g ys
map-places f g [] [] long each = refl
map-places f g [] (y ∷ ys) long each = absurd (omega (arith, long))
map-places f g (x ∷ xs) [] long each = absurd (omega (arith, long))
map-places f g (x ∷ xs) (y ∷ ys) long each =
    ap₂ (λ z zs. z ∷ zs) (each 0 x y refl refl) (map-places f g xs ys (ap pred long) (λ k a b. each (suc k) a b))

pub as-many : (session : Session) → IsOne session → length session.driver.disks ≡ length session.script.header.disks
as-many session one = one.rings.disks ∙ ap (λ (s : Script). length s.header.disks) one.driver_script

pub long : (session : Session) → IsOne session → length session.driver.disks ≡ length session.players
long session one = as-many session one ∙ sym one.disk_ends

pub both-of : (session : Session) → length session.driver.disks ≡ length session.players → (disk : ℕ) (player : Playing) → slice_get session.players disk ≡ Some player → (got : Getting) × IsDisk session disk player got
both-of session same disk player here =
    let there : (got : Getting) × (slice_get session.driver.disks disk ≡ Some got) = there_too session.players session.driver.disks disk player same here in
    (there.0, record { player_is = here; got_is = there.1 })

pub both-by : (session : Session) → length session.driver.disks ≡ length session.players → (disk : ℕ) (got : Getting) → slice_get session.driver.disks disk ≡ Some got → (player : Playing) × IsDisk session disk player got
both-by session same disk got here =
    let there : (player : Playing) × (slice_get session.players disk ≡ Some player) = there_too session.driver.disks session.players disk got (sym same) here in
    (there.0, record { player_is = there.1; got_is = here })

-- a disk before a step, and what the step did
pub record Stepped (Step : Playing → Getting → Playing → Getting → Type 0) (session : Session) (disk : ℕ) (player_after : Playing) (got_after : Getting) : Type 0 where
  pub player : Playing
  pub got : Getting
  pub before : IsDisk session disk player got
  pub step : Step player got player_after got_after

module _ (Step : Playing → Getting → Playing → Getting → Type 0) (session after : Session) (each : EachDisk Step session after) where
  pub stepped : (disk : ℕ) (player_after : Playing) (got_after : Getting) → IsDisk after disk player_after got_after → Stepped Step session disk player_after got_after
  stepped disk player_after got_after behind =
      let player : (player : Playing) × (slice_get session.players disk ≡ Some player) = there_too after.players session.players disk player_after (sym each.players) behind.player_is in
      let got : (got : Getting) × (slice_get session.driver.disks disk ≡ Some got) = there_too after.driver.disks session.driver.disks disk got_after (sym each.disks) behind.got_is in
      let before : IsDisk session disk player.0 got.0 = record { player_is = player.1; got_is = got.1 } in
      record { player = player.0; got = got.0; before = before; step = each.each disk player.0 player_after got.0 got_after before behind }

  pub long-after : length session.driver.disks ≡ length session.players → length after.driver.disks ≡ length after.players
  long-after same = each.disks ∙ same ∙ sym each.players
