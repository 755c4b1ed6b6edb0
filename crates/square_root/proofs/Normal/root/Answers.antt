-- `square_root::Normal::root` is right since the whole root of the significand, followed by 54 zeros, is the exact root cut after 54 digits: the last of them
-- says on which side of the middle between two f64 the exact root lies, which is never the middle itself, as an odd number's square is no multiple of four.
-- Assumes nothing.
use Rattle.std.proofs.Common.{◌≡◌, ℕ, ◌+◌, ◌*◌, ◌/◌, ◌%◌, ◌^◌, ap, ◌∙◌, arith, shl_exact}
use lib.Ieee.{binary64, of_bits}
use Rattle.square_root.specs.Roots.{isqrt, rooted}
use Rattle.square_root.proofs.Isqrt.{isqrt_root}
use Rattle.square_root.proofs.Assembly.{bits_right, parted, doubled_lt, doubled_ge, root_lt}
use Rattle.square_root.proofs.Normal.root.Goals as goal

pub invariant_of-radicand : goal.invariant_of-radicand
invariant_of-radicand c =
    record {
      long = doubled_ge c.args.self.significand.digits c.args.self.exponent c.args.self.long c.args.self.significand.short;
      short = doubled_lt c.args.self.significand.digits c.args.self.exponent c.args.self.significand.short;
    }

pub overflow_add-digits : goal.overflow_add-digits
overflow_add-digits c =
    let s = c.args.self.significand.digits * 2 ^ (c.args.self.exponent % 2) % 2 ^ 64 in
    let is : c.root.result ≡ isqrt (s * 2 ^ 54) = c.root.ensures ∙ ap isqrt c.whole_root.ensures in
    omega (arith, root_lt (isqrt (s * 2 ^ 54)) s (doubled_lt c.args.self.significand.digits c.args.self.exponent c.args.self.significand.short) (isqrt_root (s * 2 ^ 54)))

pub returns : goal.returns
returns c =
    let x = c.args.self.exponent in
    let s = c.args.self.significand.digits * 2 ^ (x % 2) % 2 ^ 64 in
    let lo = doubled_ge c.args.self.significand.digits x c.args.self.long c.args.self.significand.short in
    let hi = doubled_lt c.args.self.significand.digits x c.args.self.significand.short in
    c.f64_from_bits_with_nan.ensures
    ∙ ap (λ (b : ℕ). of_bits binary64 (b + (c.root.result + 1) / 2)) (shl_exact 11 52 64 (omega arith) (omega arith))
    ∙ ap (λ (q : ℕ). of_bits binary64 ((x / 2 + 479) * 2 ^ 52 + (q + 1) / 2)) (c.root.ensures ∙ ap isqrt c.whole_root.ensures)
    ∙ bits_right s (x / 2) (isqrt (s * 2 ^ 54)) lo hi (omega arith) (isqrt_root (s * 2 ^ 54))
    ∙ ap rooted (parted c.args.self.significand.digits x c.args.self.significand.short)
