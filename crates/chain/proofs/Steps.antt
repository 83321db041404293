-- What a step leaves is one outcome.
use Rattle.chain.specs.Swaps.{TurnIsFunction}
use Rattle.chain.specs.Begins.{BeginIsFunction}

pub turn_is_function : {P : Type 0} → TurnIsFunction P
turn_is_function s t k l a = λ i. record { width = a.width i; height = a.height i; count = a.count i; pixel = λ b u v. a.pixel b u v i; age = λ b. a.age b i; back = a.back i; front = a.front i; writes = a.writes i }

pub begin_is_function : {P : Type 0} → BeginIsFunction P
begin_is_function o mem fit w h n s a = λ i. record { width = a.width i; height = a.height i; count = a.count i; pixel = λ b u v. a.pixel b u v i; age = λ b. a.age b i; back = a.back i; front = a.front i; writes = a.writes i }
