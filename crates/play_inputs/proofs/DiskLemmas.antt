-- The disk files of a play: what is known of them before calls that keep the files, and the status of what stands against one.
use Rattle.std.proofs.Common.{◌≡◌, ◌∙◌, ℕ, suc, List, [], ◌∷◌, Some, None, map, refl, sym, take}
use Rattle.std.specs.Prelude.{slice_index_or, Option}
use Rattle.jack_host.specs.Files.{bytes_under, SameFiles}
use Rattle.disk_inputs.specs.declared.faults.Against.{Against}
use Rattle.disk_inputs.specs.DiskFiles.{IsFirstAgainst}
use Rattle.disk_inputs.specs.Openings.{IsFirstUnfit, LacksDisk}
use Rattle.play_inputs.specs.Inputs.{Files, IfBytesAll}

pub all-map : (files : Option Files) (names : List (List ℕ)) (P Q : List (List ℕ) → Type 0) → ((all : List (List ℕ)) → P all → Q all) → IfBytesAll files names P → IfBytesAll files names Q
all-map None names P Q f h = tt
all-map (Some files) names P Q f h = (h.0, h.1, f h.0 h.2)

pub names-before : (a b : Files) → ((name : List ℕ) → bytes_under b name ≡ bytes_under a name) → (names : List (List ℕ)) → map (bytes_under b) names ≡ map (bytes_under a) names
names-before a b same [] = refl
names-before a b same (name ∷ names) = let head = same name in let tail = names-before a b same names in (λ k. head k ∷ tail k)

pub all-before : (a b : Option Files) (names : List (List ℕ)) (P : List (List ℕ) → Type 0) → SameFiles a b → IfBytesAll b names P → IfBytesAll a names P
all-before None None names P s h = tt
all-before None (Some b) names P s h = absurd s
all-before (Some a) None names P s h = absurd s
all-before (Some a) (Some b) names P s h = (h.0, sym (names-before a b s names) ∙ h.1, h.2)

pub unfit-before : (a b : Option Files) (names : List (List ℕ)) (rate : ℕ) (channels : List ℕ) (place : ℕ) (against : Against) → SameFiles a b
    → IsFirstUnfit b names rate channels place against → IsFirstUnfit a names rate channels place against
unfit-before a b names rate channels place against s h = (h.0, all-before a b (take (suc place) names) (λ all. IsFirstAgainst all rate channels place against) s h.1)

pub lacks-before : (a b : Option Files) (names : List (List ℕ)) (rate : ℕ) (channels : List ℕ) → SameFiles a b → LacksDisk b names rate channels → LacksDisk a names rate channels
lacks-before a None names rate channels s h = absurd h
lacks-before None (Some b) names rate channels s h = absurd s
lacks-before (Some a) (Some b) names rate channels s (place, is) = (
  place,
  record {
    within = is.within;
    before = is.before;
    bytes_are = sym (names-before a b s (take place names)) ∙ is.bytes_are;
    disks = is.disks;
    are_disks = is.are_disks;
    missing = sym (s (slice_index_or names place [])) ∙ is.missing;
  },
)
