-- What an accepted provider was made of, part by part.
use Rattle.std.specs.Prelude.{ℕ, ◌+◌, ◌*◌, ◌≤◌, ◌≡◌, refl, List, length}
use Rattle.blob.specs.Le.{le}
use Rattle.blob.specs.Reading.{Reading, done, run, number, many, each}
use Rattle.blob.proofs.Finds.{Finds, finds-got, finds-room, finds_bind, finds-next}
use Rattle.format.specs.Definition.{guid_at, step}
use Rattle.format.specs.Provider.{Provider, wevt_at, descriptor_at, element_at, provider_at}
use Rattle.format.specs.Crim.{described_at}
use Rattle.format.specs.declared.Wevt.{Wevt}

pub record Described (at : ℕ) (s : List ℕ) (p : Provider) : Type 0 where
  pub guid : run (guid_at at) s ≡ done p.guid
  pub offset : p.offset ≡ le 4 s (at + 16)
  pub header : Wevt
  pub wevt : run (wevt_at p.offset) s ≡ done header
  pub size : p.size ≡ header.size
  pub message : p.message ≡ header.message
  pub array : p.offset + 20 + 8 * header.descriptors ≤ length s
  pub descriptors : run (many descriptor_at (step 8) header.descriptors (p.offset + 20)) s ≡ done p.descriptors
  pub words : p.offset + 20 + 8 * header.descriptors + 4 * header.unknown2 ≤ length s
  pub unknown2 : run (many (number 4) (step 4) header.unknown2 (p.offset + 20 + 8 * header.descriptors)) s ≡ done p.unknown2
  pub elements : run (each element_at p.descriptors) s ≡ done p.elements

module _ (s : List ℕ) where
  itself : {A : Type 0} {r : Reading A} → Finds r s (λ a. run r s ≡ done a)
  itself = record { found = λ a e. e }

  described-finds : (at : ℕ) → Finds (described_at at) s (λ p. Described at s p)
  unfolding described_at provider_at
  described-finds at =
      finds_bind _ itself (λ g guid. finds-next 4 (at + 16) (λ o offset.
      finds_bind _ itself (λ w wevt. finds-room (λ array.
      finds_bind _ itself (λ ds descriptors. finds-room (λ words.
      finds_bind _ itself (λ us unknown2. finds_bind _ itself (λ es elements.
      finds-got (record {
        guid = guid;
        offset = offset;
        header = w;
        wevt = wevt;
        size = refl;
        message = refl;
        array = array;
        descriptors = descriptors;
        words = words;
        unknown2 = unknown2;
        elements = elements;
      })))))))))

  pub described : (at : ℕ) (p : Provider) → run (described_at at) s ≡ done p → Described at s p
  described at p e = (described-finds at).found p e
