-- Each byte stands for one kind at most.
use mathlib.Core.Path.{◌≡◌, refl, sym, ap, ◌∙◌}
use Prim.Native.Nat.{ℕ, zero, suc, ◌<◌}
use native.Mathlib.Omega.{arith}
use Rattle.std.specs.Prelude.{Result, Ok, Err, MatchResult}
use Rattle.items.specs.declared.Kind.{Kind}
use Rattle.items.specs.declared.Kind.TheVariants.{Setup, LineByte, Mark, Contact, Lift, Record, Second}
use Rattle.items.specs.declared.UnknownKind.{UnknownKind}
use Rattle.items.specs.KindBytes.{number_of}

-- the kind back from its byte
kind_at : ℕ → Kind
kind_at zero = Setup
kind_at (suc zero) = LineByte
kind_at (suc (suc zero)) = Mark
kind_at (suc (suc (suc zero))) = Contact
kind_at (suc (suc (suc (suc zero)))) = Lift
kind_at (suc (suc (suc (suc (suc zero))))) = Record
kind_at (suc (suc (suc (suc (suc (suc b)))))) = Second

read_back : (kind : Kind) → kind_at (number_of kind) ≡ kind
unfolding kind_at
read_back Setup = refl
read_back LineByte = refl
read_back Mark = refl
read_back Contact = refl
read_back Lift = refl
read_back Record = refl
read_back Second = refl

number_small : (kind : Kind) → number_of kind < 7
number_small Setup = omega arith
number_small LineByte = omega arith
number_small Mark = omega arith
number_small Contact = omega arith
number_small Lift = omega arith
number_small Record = omega arith
number_small Second = omega arith

pub one_kind : (k j : Kind) → number_of k ≡ number_of j → k ≡ j
one_kind k j is = sym (read_back k) ∙ ap kind_at is ∙ read_back j

-- what `Kind::try_from` ensures
abbrev pub Decodes : ℕ → Result Kind UnknownKind → Type 0
Decodes b r = MatchResult r (λ kind. number_of kind ≡ b) (λ e. (e.0 ≡ b) × (6 < b))

-- one answer fits it
pub decodes_once : (b : ℕ) (r s : Result Kind UnknownKind) → Decodes b r → Decodes b s → r ≡ s
decodes_once b (Ok k) (Ok j) p q = ap (λ (kind : Kind). Ok kind) (one_kind k j (p ∙ sym q))
decodes_once b (Ok k) (Err e) p q = absurd (omega (arith, number_small k))
decodes_once b (Err e) (Ok j) p q = absurd (omega (arith, number_small j))
decodes_once b (Err e) (Err f) p q = ap (λ (n : ℕ). Err (record { 0 = n })) (p.0 ∙ sym q.0)
