-- The numbers by which specs/Classes and specs/Steps speak of the code's classes and states, in the order in which the code declares them.
use Rattle.std.specs.Prelude.{ℕ}
use Rattle.text_scan.specs.declared.tables.ByteClass.{ByteClass}
use Rattle.text_scan.specs.declared.tables.ByteClass.TheVariants as class
use Rattle.text_scan.specs.declared.tables.Reading.{Reading}
use Rattle.text_scan.specs.declared.tables.Reading.TheVariants as reading

abbrev pub class_number : ByteClass → ℕ
class_number class.Nowhere = 0
class_number class.Zero = 1
class_number class.Digit = 2
class_number class.Letter = 3
class_number class.Quote = 4
class_number class.Colon = 5
class_number class.Bar = 6
class_number class.E = 7
class_number class.M = 8
class_number class.P = 9
class_number class.T = 10
class_number class.Y = 11
class_number class.Inside = 12
class_number class.Minus = 13

abbrev pub state_number : Reading → ℕ
state_number reading.Before = 0
state_number reading.InDigits = 1
state_number reading.AtNumber = 2
state_number reading.Behind = 3
state_number reading.InString = 4
state_number reading.AtM = 5
state_number reading.AtP = 6
state_number reading.AtT = 7
state_number reading.AtY = 8
state_number reading.AtDigits = 9
state_number reading.Refused = 10
