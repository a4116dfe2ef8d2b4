-- What a tag hears of a message is what the reader says of it.
use Prim.Native.Nat.{ℕ}
use mathlib.Core.Path.{◌≡◌, refl}
use mathlib.Core.List.{List}
use lib.ListN.{get_or}
use Rattle.codec.specs.Refusal.{Refusal, Err, Ok}
use Rattle.codec.specs.Technology.{known}
use Rattle.codec.specs.Blocks.{configurations}
use Rattle.codec.specs.Table.{message_of}
use Rattle.codec.specs.Message.{id_of, set_of, reading}
use Rattle.codec.specs.Inner.Places.{Placed, Hears}
use Rattle.codec.proofs.FoundLemmas.{configuration_found}

pub refused_heard : (m : List ℕ) {x : Refusal} → reading m ≡ Err x → Hears (reading m) m (Err x)
refused_heard m e = rw e

-- a message without a fault
module _ {m places : List ℕ} (l : Placed m places) where
  pub heard_alone : (id_of m ≡ message_of configurations → ⊥) → Hears (reading m) m (Ok (record { id = id_of m; set = known (set_of m); uwb = 0; cs = 0; nan = 0; rssi = 0 }))
  heard_alone n = rw l.reads (record { id = refl; set = refl; settings = λ e. absurd (n e) })

  pub heard_settings : id_of m ≡ message_of configurations
      → Hears (reading m) m (Ok (record { id = 2; set = known (set_of m); uwb = get_or places 0 0; cs = get_or places 1 0; nan = get_or places 2 0; rssi = get_or places 3 0 }))
  heard_settings h = rw (configuration_found l h) (record { id = refl; set = refl; settings = λ e. refl })
