-- Documents 01 and 02, "The job file": the wind that a pane line states, and the line.
pub mod StatedWind
pub mod PaneLine
-- What a ribbon is.
pub mod Ribbon
-- Which sides a pane may have.
pub mod Sides
-- A pane with another wind.
pub mod OtherWind
pub mod Internal
