-- What holds of each of sixteen numbers.
use Rattle.std.proofs.Common.{ℕ, zero, suc, ◌<◌, arith}

pub each_of_16 : (P : ℕ → Type 0) → P 0 → P 1 → P 2 → P 3 → P 4 → P 5 → P 6 → P 7 → P 8 → P 9 → P 10 → P 11 → P 12 → P 13 → P 14 → P 15 → (n : ℕ) → n < 16 → P n
each_of_16 P a b c d e f g h i j k l m n o p zero x = a
each_of_16 P a b c d e f g h i j k l m n o p (suc zero) x = b
each_of_16 P a b c d e f g h i j k l m n o p (suc (suc zero)) x = c
each_of_16 P a b c d e f g h i j k l m n o p (suc (suc (suc zero))) x = d
each_of_16 P a b c d e f g h i j k l m n o p (suc (suc (suc (suc zero)))) x = e
each_of_16 P a b c d e f g h i j k l m n o p (suc (suc (suc (suc (suc zero))))) x = f
each_of_16 P a b c d e f g h i j k l m n o p (suc (suc (suc (suc (suc (suc zero)))))) x = g
each_of_16 P a b c d e f g h i j k l m n o p (suc (suc (suc (suc (suc (suc (suc zero))))))) x = h
each_of_16 P a b c d e f g h i j k l m n o p (suc (suc (suc (suc (suc (suc (suc (suc zero)))))))) x = i
each_of_16 P a b c d e f g h i j k l m n o p (suc (suc (suc (suc (suc (suc (suc (suc (suc zero))))))))) x = j
each_of_16 P a b c d e f g h i j k l m n o p (suc (suc (suc (suc (suc (suc (suc (suc (suc (suc zero)))))))))) x = k
each_of_16 P a b c d e f g h i j k l m n o p (suc (suc (suc (suc (suc (suc (suc (suc (suc (suc (suc zero))))))))))) x = l
each_of_16 P a b c d e f g h i j k l m n o p (suc (suc (suc (suc (suc (suc (suc (suc (suc (suc (suc (suc zero)))))))))))) x = m
each_of_16 P a b c d e f g h i j k l m n o p (suc (suc (suc (suc (suc (suc (suc (suc (suc (suc (suc (suc (suc zero))))))))))))) x = n
each_of_16 P a b c d e f g h i j k l m n o p (suc (suc (suc (suc (suc (suc (suc (suc (suc (suc (suc (suc (suc (suc zero)))))))))))))) x = o
each_of_16 P a b c d e f g h i j k l m n o p (suc (suc (suc (suc (suc (suc (suc (suc (suc (suc (suc (suc (suc (suc (suc zero))))))))))))))) x = p
each_of_16 P a b c d e f g h i j k l m n o p (suc (suc (suc (suc (suc (suc (suc (suc (suc (suc (suc (suc (suc (suc (suc (suc q)))))))))))))))) x = absurd (omega (arith, x))
